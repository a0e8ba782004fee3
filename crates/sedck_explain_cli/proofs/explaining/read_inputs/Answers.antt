use Rattle.sedck_explain_cli.proofs.Common.{None, Some, refl, sym, ap, subst, option_map, IsGiven}
use Rattle.sedck_explanation.proofs.KnownBytes.{read_known}
use Rattle.sedck_explain_cli.proofs.explaining.read_inputs.Goals as goal

pub returns-in_default-clause-given : goal.returns-in_default-clause-given
returns-in_default-clause-given g c =
    subst (λ path. IsGiven (g.O.Opener.known c.args.session.now.files.now) path None) (sym (ap (option_map (λ path. path.now)) c.in_default.is)) refl

pub returns-clause-given : goal.returns-clause-given
returns-clause-given g c =
    let k = g.O.Opener.known c.args.session.now.files.now in
    let path = c.in-Some.path.now in
    let bytes = c.in_ok-read_certificate.field-0.items in
    subst (λ given. IsGiven k given (Some bytes)) (sym (ap (option_map (λ path. path.now)) c.in-Some.is))
    (bytes, refl, read_known 1572865 (k.bytes_at path) _ bytes c.in-Ok.ensures.bytes c.in_ok-read_certificate.ensures.read)
