use Rattle.sedck_model.proofs.Common.{◌≤◌, take, Adds}
use Rattle.sedck_model.proofs.adding.add_all.Given as goal

abbrev pub invariant-loop-spot : goal.invariant-loop-spot
invariant-loop-spot l = record {
  added : Adds l.initial.spots.items (take l.spot-index l.others) l.spots.items;
  spent : l.budget.left ≤ l.initial.budget.left;
}
