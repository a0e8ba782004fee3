use Rattle.sedck_model.proofs.Common.{◌≤◌, [], take, tree, AddsLed, AreWithin, Passes}
use Rattle.sedck_model.proofs.single.pass.Given as goal

abbrev pub invariant-loop-spot : goal.invariant-loop-spot
invariant-loop-spot l = record {
  led : AddsLed (Passes (tree l.expression)) l.text [] (take l.spot-index l.from) l.spots.items;
  within : AreWithin l.text l.spots.items;
  spent : l.budget.left ≤ l.initial.budget.left;
}
