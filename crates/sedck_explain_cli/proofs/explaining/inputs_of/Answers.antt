use Rattle.sedck_explain_cli.proofs.Common.{◌∙◌, sym, inl, inr, certificate_of}
use Rattle.sedck_explain_cli.proofs.Reasons.{reason_of}
use Rattle.sedck_explain_cli.proofs.explaining.inputs_of.Goals as goal

pub returns-then-eq-clause-reason : goal.returns-then-eq-clause-reason
returns-then-eq-clause-reason g c =
    reason_of (g.O.Opener.known c.args.session.now.files.now) (certificate_of c.args.session.now.request.now) _ _ c.read_inputs.result
    (λ failed. inl (sym c.eq.ensures ∙ c.if-eq.true)) c.read_inputs.ensures.reason

pub returns-in-Ok-clause-reason : goal.returns-in-Ok-clause-reason
returns-in-Ok-clause-reason g c =
    reason_of (g.O.Opener.known c.args.session.now.files.now) (certificate_of c.args.session.now.request.now) _ _ c.read_inputs-in-Ok.result
    (λ failed. inr (inr (c.open.ensures.failing c.read_inputs-in-Ok.new.script failed))) c.read_inputs-in-Ok.ensures.reason
