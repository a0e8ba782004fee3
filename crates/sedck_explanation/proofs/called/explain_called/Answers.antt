use Rattle.sedck_explanation.proofs.Common.{◌≡◌, ◌&&◌, ◌∙◌, Bool, true, refl, sym, denies}
use Rattle.sedck_explanation.proofs.SaidOfCalls.{called_denied, called_plain}
use Rattle.sedck_explanation.proofs.called.explain_called.Goals as goal

both_true : {a b : Bool} → a ≡ true → b ≡ true → (a && b) ≡ true
both_true one two = rw (one, two) refl

pub returns-then-is_denied_call-clause-called : goal.returns-then-is_denied_call-clause-called
returns-then-is_denied_call-clause-called c =
    called_denied c.args.text.now c.args.denied c.args.call.now c.in_ok-explanation.explanation c.denied_call.result
    c.in_ok-explanation.ensures.explanation (λ denied placed. c.in_ok-explanation.ensures.warned (c.in_ok-warnings.ensures.kinds (denies c.args.denied.warnings) ∙ both_true placed denied))
    (sym c.is_denied_call.ensures ∙ c.if-is_denied_call.true) c.denied_call.ensures

pub returns-clause-called : goal.returns-clause-called
returns-clause-called c =
    called_plain c.args.text.now c.args.denied c.args.call.now c.in_ok-explanation.explanation
    c.in_ok-explanation.ensures.explanation (λ denied placed. c.in_ok-explanation.ensures.warned (c.in_ok-warnings.ensures.kinds (denies c.args.denied.warnings) ∙ both_true placed denied))
    (sym c.is_denied_call.ensures ∙ c.if-is_denied_call.false)
