-- A place after the words that lead to it.
use Rattle.std.specs.Prelude.{ℕ, List, [], ◌++◌, Option, Some, None, decimal}

-- the words and the place, or nothing where there is no place
abbrev pub place_behind : List ℕ → Option ℕ → List ℕ
place_behind words None = []
place_behind words (Some place) = words ++ decimal place
