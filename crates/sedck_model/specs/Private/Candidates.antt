-- The trees of a list of expressions.
use Rattle.std.specs.Prelude.{List, map}
use Rattle.std.specs.Borrow.{Bor}
use Rattle.sedck_bre.specs.Tree.{Tree}
use Rattle.sedck_bre.specs.View.{tree}
use Rattle.sedck_expressions.specs.declared.tree.Bre.{Bre}

abbrev pub trees_in : List (Bor Bre) → List Tree
trees_in found = map (λ e. tree e.now) found
