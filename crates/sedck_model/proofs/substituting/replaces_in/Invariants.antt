use Rattle.sedck_model.proofs.Common.{◌≤◌, ◌<◌, ℕ, drop, substitution_of, Replaces}
use Rattle.sedck_bre.specs.View.{tree}
use Rattle.sedck_model.proofs.substituting.replaces_in.Given as goal

-- no match begins so far
abbrev pub invariant-loop-length : goal.invariant-loop-length
invariant-loop-length l = record {
  none : (k : ℕ) → k < l.length → Replaces (tree l.replacing.expression.now) (substitution_of l.replacing.substitution.now) (drop k l.old_text) (drop k l.new_text) → ⊥;
  spent : l.budget.left ≤ l.fn.budget.left;
}
