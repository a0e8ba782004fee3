-- Whether there are expressions, and the least length of their texts.
use Rattle.std.specs.Prelude.{◌≡◌, ℕ, min, Bool, true, false, List, [], ◌∷◌, Option, Some, None}
use Rattle.sedck_expressions.specs.Tree.{Tree}
use Rattle.sedck_bre.specs.Lengths.{IsLeastSize}
use Rattle.sedck_script.specs.Shortest.{SomeHasLength}

abbrev pub has_some : List Tree → Bool
has_some [] = false
has_some (tree ∷ trees) = true

-- the least length of a text of the expressions, where there are some
abbrev pub IsLeastOf : List Tree → Option ℕ → Type 0
IsLeastOf trees None = has_some trees ≡ false
IsLeastOf trees (Some n) = (has_some trees ≡ true) × IsLeastSize (SomeHasLength trees) n

-- the lesser of two lengths, where there are such
abbrev pub lesser : Option ℕ → Option ℕ → Option ℕ
lesser None other = other
lesser (Some m) None = Some m
lesser (Some m) (Some n) = Some (min m n)
