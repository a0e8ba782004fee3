use Rattle.sedck_model.proofs.Common.{◌≡◌, take}
use Rattle.sedck_model.proofs.substituting.shared_length.Given as goal

-- so far they are the same
abbrev pub invariant-loop-length : goal.invariant-loop-length
invariant-loop-length l = take l.length l.one ≡ take l.length l.other
