use Rattle.sedck_model.proofs.Common.{take, IsWithout}
use Rattle.sedck_model.proofs.adding.without.Given as goal

abbrev pub invariant-loop-spot : goal.invariant-loop-spot
invariant-loop-spot l = IsWithout (take l.spot-index l.spots) l.others l.left.items
