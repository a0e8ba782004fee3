use Rattle.sedck_model.proofs.Common.{arith, sym, ◌∙◌, false≢true, pattern_of}
use Rattle.sedck_model.proofs.SelectLemmas.{none_more, none_has}
use Rattle.sedck_model.proofs.selecting.is_matched.Goals as goal

pub loop-expression-preserved : goal.loop-expression-preserved
loop-expression-preserved c = record {
  spent = omega (arith, c.has_match.ensures.spent, c.loop-expression.invariant.spent);
  none = none_more c.args.text.now c.deref-expression-items.result.now c.loop-expression.expression-index c.expression-item.result
      c.loop-expression-test.true c.expression-item.is c.loop-expression.invariant.none
      (λ h. false≢true (sym c.if-branch.false ∙ c.in_ok-has_match.ensures.exact.1 h));
}

pub returns-clause-decided : goal.returns-clause-decided
returns-clause-decided c = (
  λ e. absurd (false≢true e),
  λ h. absurd (none_has c.args.script.now (pattern_of c.args.pattern.now) c.args.text.now
      c.deref-expression-items.result.now c.loop-expression.expression-index
      (rw c.deref-expression-items.ensures.value c.in_ok-found.ensures) c.loop-expression-test.false c.loop-expression.invariant.none h),
)
