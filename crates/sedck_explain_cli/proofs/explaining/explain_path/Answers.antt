use Rattle.sedck_explain_cli.proofs.Common.{option_map, is_some, Output}
use Rattle.sedck_explain_cli.proofs.Mended.{same_inputs}
use Rattle.sedck_explain_cli.proofs.Spelled.{explained_at}
use Rattle.sedck_explain_cli.proofs.explaining.explain_path.Goals as goal

pub returns : goal.returns
returns g c =
    let request = c.args.session.now.request.now in
    let inputs = c.in_ok-inputs.inputs in
    let given = option_map (λ bytes. bytes.items) inputs.certificate in
    let out : Output = record { before = g.W.Sink.taken c.args.out.now; after = g.W.Sink.taken c.explain_inputs.new.out } in
    let err : Output = record { before = g.E.Sink.taken c.args.err.now; after = g.E.Sink.taken c.explain_inputs.new.err } in
    explained_at (g.O.Opener.known c.args.session.now.files.now) request c.args.path.now inputs.text.items given (is_some c.args.plain) out err
    c.explain_inputs.result c.in_ok-inputs.ensures.text c.in_ok-inputs.ensures.given
    (same_inputs request.mends (is_some c.args.plain) _ inputs.text.items given request.denied out err c.explain_inputs.result
    c.explain_inputs.ensures.few c.explain_inputs.ensures.explained)
