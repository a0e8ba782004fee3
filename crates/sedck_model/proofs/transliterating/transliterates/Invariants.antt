use Rattle.sedck_model.proofs.Common.{ℕ, ◌<◌, get_or, MayBecome}
use Rattle.sedck_model.proofs.transliterating.transliterates.Given as goal

-- so far each byte may become the one at its place
abbrev pub invariant-loop-i : goal.invariant-loop-i
invariant-loop-i l = (k : ℕ) → k < l.i → MayBecome l.from l.to (get_or l.old_text k 0) (get_or l.new_text k 0)
