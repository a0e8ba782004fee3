use Rattle.sedck_model.proofs.Common.{ℕ, List, ◌≤◌, take, Contains, Spot, reached, AddsLed, AreWithin, IsBetween, Closes}
use Rattle.sedck_model.proofs.groups.add_closed.Given as goal

abbrev pub invariant-loop-end : goal.invariant-loop-end
invariant-loop-end l = record {
  added : (text : List ℕ) → ((s : Spot) → Contains l.ends s → IsBetween text l.start.at s.at)
      → AddsLed (Closes l.group (reached text l.start)) text l.initial.spots.items (take l.end-index l.ends) l.spots.items;
  within : (text : List ℕ) → AreWithin text l.initial.spots.items → AreWithin text l.ends → AreWithin text l.spots.items;
  spent : l.budget.left ≤ l.initial.budget.left;
}
