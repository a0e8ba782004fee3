use Rattle.sedck_model.proofs.Common.{◌≡◌, ℕ, ◌<◌, Some, slice_get}
use Rattle.sedck_model.proofs.transliterating.has_partner.Given as goal

-- no place so far has the byte
abbrev pub invariant-loop-i : goal.invariant-loop-i
invariant-loop-i l = (k : ℕ) → k < l.i → slice_get l.from k ≡ Some l.byte → ⊥
