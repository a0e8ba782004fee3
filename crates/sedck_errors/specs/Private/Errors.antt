-- What functions promise each other of a script's text.
use Rattle.std.specs.Prelude.{◌==◌, ◌&&◌, ℕ, Bool, false, List, ◌∷◌}
use Rattle.sedck_script.specs.Cuts.{backslash}

-- a backslash and this delimiter are first; a backslash and any other byte
abbrev pub is_escaped : ℕ → List ℕ → Bool
is_escaped delimiter (a ∷ b ∷ rest) = (a == backslash) && (b == delimiter)
is_escaped delimiter _ = false

abbrev pub is_pair : List ℕ → Bool
is_pair (a ∷ b ∷ rest) = a == backslash
is_pair _ = false
