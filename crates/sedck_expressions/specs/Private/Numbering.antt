-- Numbers in a row.
use Rattle.std.specs.Prelude.{◌≡◌, ℕ, ◌+◌, List, [], ◌∷◌}

-- the list is n, n + 1 and so on
abbrev pub CountsFrom : ℕ → List ℕ → Type 0
CountsFrom n [] = Unit {0}
CountsFrom n (k ∷ ks) = (k ≡ n) × CountsFrom (n + 1) ks
