use Rattle.sedck_flow.proofs.Common.{◌<◌, ℕ, get_or, number}
use Rattle.sedck_flow.proofs.edge_list.place_of.Given as goal

-- those so far are before the new one
abbrev pub invariant-loop-at : goal.invariant-loop-at
invariant-loop-at l = (k : ℕ) → k < l.at → number (get_or l.targets k l.fn.target) < number l.fn.target
