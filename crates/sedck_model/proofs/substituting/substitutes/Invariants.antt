use Rattle.sedck_model.proofs.Common.{◌≤◌, take, substitution_of, trees_in, ReplacesIn}
use Rattle.std.proofs.Common.{Contains}
use Rattle.sedck_bre.specs.Tree.{Tree}
use Rattle.sedck_model.proofs.substituting.substitutes.Given as goal

-- no expression so far has such matches
abbrev pub invariant-loop-expression : goal.invariant-loop-expression
invariant-loop-expression l = record {
  none : (t : Tree) → Contains (trees_in (take l.expression-index l.expression-items)) t → ReplacesIn t (substitution_of l.substitution) l.old_text l.new_text → ⊥;
  spent : l.budget.left ≤ l.fn.budget.left;
}
