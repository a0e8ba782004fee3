-- The least length of what the expressions of a script match.
use Rattle.std.specs.Prelude.{ℕ, List, Contains}
use Rattle.sedck_expressions.specs.Tree.{Tree}
use Rattle.sedck_bre.specs.Lengths.{HasLength}

-- one of the expressions has a text of this length
abbrev pub SomeHasLength : List Tree → ℕ → Type 0
SomeHasLength trees n = (tree : Tree) × Contains trees tree × HasLength tree n
