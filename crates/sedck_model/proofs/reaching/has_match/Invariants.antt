use Rattle.sedck_model.proofs.Common.{ℕ, ◌<◌, ◌≤◌, tree}
use Rattle.sedck_model.proofs.EndLemmas.{BeginsMatch}
use Rattle.sedck_model.proofs.reaching.has_match.Given as goal

abbrev pub invariant-loop-from : goal.invariant-loop-from
invariant-loop-from l = record {
  none : (k : ℕ) → k < l.from → BeginsMatch (tree l.expression) l.text k → ⊥;
  spent : l.budget.left ≤ l.initial.budget.left;
}
