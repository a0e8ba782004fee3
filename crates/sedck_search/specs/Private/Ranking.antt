-- Ranks from counts.
use Rattle.std.specs.Prelude.{ℕ, zero, suc, List, [], ◌∷◌, Option, Some, None}

-- a node that isn't counted has no ranks
abbrev pub ranks_of_counts : ℕ → ℕ → Option (ℕ × ℕ)
ranks_of_counts zero second = None
ranks_of_counts (suc first) second = Some (suc first, second)

abbrev pub ranks_from : List ℕ → List ℕ → List (Option (ℕ × ℕ))
ranks_from (first ∷ firsts) (second ∷ seconds) = ranks_of_counts first second ∷ ranks_from firsts seconds
ranks_from _ _ = []
