use Rattle.sedck_model.proofs.Common.{◌≤◌, ◌<◌, ◌+◌, ◌-◌, ◌*◌, ℕ, length, take, drop, substitution_of, Spot, Replaces, ReplacesAt}
use Rattle.std.proofs.Common.{Contains}
use Rattle.sedck_bre.specs.View.{tree}
use Rattle.sedck_model.proofs.substituting.+replacing.Given as goal

-- each match takes a byte out of the text, or else one is after it
abbrev pub decreases-replaces : goal.decreases-replaces
decreases-replaces l = 3 * length l.old_text.now + 2

abbrev pub decreases-replaces_at : goal.decreases-replaces_at
decreases-replaces_at l = 3 * length l.old_text.now + 1

abbrev pub decreases-continues : goal.decreases-continues
decreases-continues l = 3 * length l.old_text.now + 3 - 3 * l.least

-- no spot so far is the end of the first match
abbrev pub invariant-replaces-loop-spot : goal.invariant-replaces-loop-spot
invariant-replaces-loop-spot l = record {
  none : (spot : Spot) → Contains (take l.spot-index l.spot-items) spot → ReplacesAt (tree l.replacing.expression.now) (substitution_of l.replacing.substitution.now) l.old_text l.new_text spot → ⊥;
  spent : l.budget.left ≤ l.fn.budget.left;
}

-- no match follows so few bytes later
abbrev pub invariant-continues-loop-length : goal.invariant-continues-loop-length
invariant-continues-loop-length l = record {
  none : (k : ℕ) → l.least ≤ k → k < l.length → Replaces (tree l.replacing.expression.now) (substitution_of l.replacing.substitution.now) (drop k l.old_text) (drop k l.new_text) → ⊥;
  spent : l.budget.left ≤ l.fn.budget.left;
}
