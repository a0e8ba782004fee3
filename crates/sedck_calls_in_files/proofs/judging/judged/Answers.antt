use Rattle.sedck_calls_in_files.proofs.Common.{◌≡◌, ◌∙◌, true, false, ap, subst, sym, IsCalled, Agrees, IsJudged, is_open, status_with}
use Rattle.sedck_calls_in_files.proofs.Lists.{if_ok_both}
use Rattle.sedck_calls_in_files.proofs.Said.{agrees_on}
use Rattle.sedck_calls_in_files.proofs.judging.judged.Goals as goal

pub returns-then-is_open-clause-said : goal.returns-then-is_open-clause-said
returns-then-is_open-clause-said c =
    let called = c.in_ok-explanation.explanation in
    let at = c.placed-explanation.result in
    let open_ : is_open c.args.text.now c.args.holes.now ≡ true = sym c.is_open.ensures ∙ c.if-is_open.true in
    if_ok_both (Agrees at) (λ e. e.status ≡ status_with true at.status) (IsJudged c.args.given.now.denied c.args.call.now c.args.text.now c.args.holes.now) c.opened.result
    (λ e agrees status. record {
      called = called;
      is_called = subst (λ bytes. IsCalled bytes c.args.given.now.denied c.args.call.now called) c.deref.ensures.value c.in_ok-explanation.ensures.called;
      agrees = agrees_on called at e c.placed-explanation.ensures.agrees agrees;
      is_status = status ∙ ap (λ s. status_with true s) c.placed-explanation.ensures.status ∙ sym (ap (λ b. status_with b called.status) open_);
    })
    c.opened.ensures.agrees c.opened.ensures.status

pub returns-clause-said : goal.returns-clause-said
returns-clause-said c =
    let called = c.in_ok-explanation.explanation in
    let known : is_open c.args.text.now c.args.holes.now ≡ false = sym c.is_open.ensures ∙ c.if-is_open.false in
    record {
      called = called;
      is_called = subst (λ bytes. IsCalled bytes c.args.given.now.denied c.args.call.now called) c.deref.ensures.value c.in_ok-explanation.ensures.called;
      agrees = c.placed-explanation.ensures.agrees;
      is_status = c.placed-explanation.ensures.status ∙ sym (ap (λ b. status_with b called.status) known);
    }
