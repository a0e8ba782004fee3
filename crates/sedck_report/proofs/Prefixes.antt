-- Ends within a line.
use Rattle.std.proofs.Common.{◌+◌, ◌≤◌, zero, suc, ℕ, Bool, true, false, List, [], ◌∷◌, take, arith}
use Rattle.std.specs.Prelude.{cond}
use Rattle.std.specs.List.{prefix_len}

one_more : (passes : Bool) (m n : ℕ) → m ≤ n → cond passes (1 + m) 0 ≤ cond passes (1 + n) 0
one_more true m n less = omega arith
one_more false m n less = omega arith

-- what is cut off can't make a prefix longer
pub prefix_taken : (p : ℕ → Bool) (count : ℕ) (text : List ℕ) → prefix_len p (take count text) ≤ prefix_len p text
prefix_taken p zero text = omega arith
prefix_taken p (suc count) [] = omega arith
prefix_taken p (suc count) (byte ∷ rest) = one_more (p byte) _ _ (prefix_taken p count rest)
