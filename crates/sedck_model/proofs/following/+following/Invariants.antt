use Rattle.sedck_model.proofs.Common.{◌≡◌, ℕ, ◌+◌, ◌*◌, ◌≤◌, [], drop, take, ◌⊎◌, ◌↔◌, sequence, Reached, Leads, Among, IsLed, AreWithin, AddsLed, Steps, UpTo, Many}
use Rattle.sedck_bre.specs.Tree.{Group}
use Rattle.sedck_bre.specs.View.{tree}
use Rattle.sedck_model.proofs.StepsLemmas.{Later, Further, IsClosed}
use Rattle.sedck_model.proofs.following.+following.Given as goal

-- the items that are left lead from the spots to what all items lead to
abbrev pub invariant-follow_all-loop-item : goal.invariant-follow_all-loop-item
invariant-follow_all-loop-item l = record {
  led : (to : Reached) → IsLed (Leads (sequence l.items)) l.text l.from to ↔ IsLed (Leads (sequence (drop l.item-index l.items))) l.text l.spots.items to;
  within : AreWithin l.text l.spots.items;
  spent : l.budget.left ≤ l.initial.budget.left;
}

abbrev pub invariant-follow_group-loop-spot : goal.invariant-follow_group-loop-spot
invariant-follow_group-loop-spot l = record {
  led : AddsLed (Leads (Group l.group (tree l.body))) l.text [] (take l.spot-index l.from) l.spots.items;
  within : AreWithin l.text l.spots.items;
  spent : l.budget.left ≤ l.initial.budget.left;
}

abbrev pub invariant-follow_many-rounds : goal.invariant-follow_many-rounds
invariant-follow_many-rounds l = record {
  led : (to : Reached)
      → IsLed (Many (Leads (tree l.body))) l.text l.from to
      ↔ (Among l.text l.spots.items to ⊎ IsLed (Further (Leads (tree l.body))) l.text l.newest.items to);
  closed : IsClosed (Leads (tree l.body)) l.text l.spots.items l.newest.items;
  within : AreWithin l.text l.spots.items;
  newest : AreWithin l.text l.newest.items;
  spent : l.budget.left ≤ l.initial.budget.left;
}

-- each round spends one of the budget
abbrev pub decreases-follow_many-rounds : goal.decreases-follow_many-rounds
decreases-follow_many-rounds l = l.budget.left

abbrev pub invariant-follow_times-loop-round : goal.invariant-follow_times-loop-round
invariant-follow_times-loop-round l = record {
  led : (n : ℕ) → n + l._round ≡ l.times → (to : Reached)
      → IsLed (Steps (Leads (tree l.body)) l.times) l.text l.from to ↔ IsLed (Steps (Leads (tree l.body)) n) l.text l.spots.items to;
  within : AreWithin l.text l.spots.items;
  spent : l.budget.left ≤ l.initial.budget.left;
}

abbrev pub invariant-follow_up_to-loop-round : goal.invariant-follow_up_to-loop-round
invariant-follow_up_to-loop-round l = record {
  led : (n : ℕ) → n + l._round ≡ l.most → (to : Reached)
      → IsLed (UpTo (Leads (tree l.body)) l.most) l.text l.from to
      ↔ (Among l.text l.spots.items to ⊎ IsLed (Later (Leads (tree l.body)) n) l.text l.newest.items to);
  within : AreWithin l.text l.spots.items;
  newest : AreWithin l.text l.newest.items;
  spent : l.budget.left ≤ l.initial.budget.left;
}

-- a function that is given the parts of a tree is above `follow` at these parts
abbrev pub decreases-follow : goal.decreases-follow
decreases-follow l = 3 * goal.size-follow l

abbrev pub decreases-follow_all : goal.decreases-follow_all
decreases-follow_all l = 3 * goal.size-follow_all l + 1

abbrev pub decreases-follow_group : goal.decreases-follow_group
decreases-follow_group l = 3 * goal.size-follow_group l + 1

abbrev pub decreases-follow_repeat : goal.decreases-follow_repeat
decreases-follow_repeat l = 3 * goal.size-follow_repeat l + 2

abbrev pub decreases-follow_times : goal.decreases-follow_times
decreases-follow_times l = 3 * goal.size-follow_times l + 1

abbrev pub decreases-follow_up_to : goal.decreases-follow_up_to
decreases-follow_up_to l = 3 * goal.size-follow_up_to l + 1

abbrev pub decreases-follow_many : goal.decreases-follow_many
decreases-follow_many l = 3 * goal.size-follow_many l + 1
