use Rattle.sedck_model.proofs.Common.{◌≤◌, take, All, HasPartIn, trees_in}
use Rattle.sedck_model.proofs.selecting.is_matched.Given as goal

-- no expression so far matches a part
abbrev pub invariant-loop-expression : goal.invariant-loop-expression
invariant-loop-expression l = record {
  spent : l.budget.left ≤ l.fn.budget.left;
  none : All (λ t. HasPartIn t l.text → ⊥) (trees_in (take l.expression-index l.expression-items));
}
