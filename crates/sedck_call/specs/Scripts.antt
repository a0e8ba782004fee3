-- The text of a script in parts (POSIX.1-2024 XCU sed, "Options": -e, -f).
use Rattle.std.specs.Prelude.{ℕ, List, [], ◌∷◌, ◌++◌, flat_map}

-- a part after a newline
abbrev pub on_new_line : List ℕ → List ℕ
on_new_line part = 10 ∷ part

-- the first part, and each other on a new line
abbrev pub joined_texts : List (List ℕ) → List ℕ
joined_texts [] = []
joined_texts (part ∷ more) = part ++ flat_map on_new_line more
