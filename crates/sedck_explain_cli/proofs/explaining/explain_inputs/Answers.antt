use Rattle.sedck_explain_cli.proofs.Common.{subst, option_map, is_some, IsExplanation, on_ok, Output}
use Rattle.sedck_explain_cli.proofs.Spelled.{explained, delivered_few}
use Rattle.sedck_explain_cli.proofs.explaining.explain_inputs.Goals as goal

pub returns-clause-few : goal.returns-clause-few
returns-clause-few g c =
    let named = c.args.named.now in
    let e = c.in_ok-explanation.explanation in
    let out : Output = record { before = g.W.Sink.taken c.args.out.now; after = g.W.Sink.taken c.deliver.new.out } in
    let err : Output = record { before = g.E.Sink.taken c.args.err.now; after = g.E.Sink.taken c.deliver.new.err } in
    on_ok _ _ c.deliver.result
    (λ status d. delivered_few (is_some named.plain) (g.F.Reporter.reported named.reporter.now named.name.now e) e out err status d c.in_ok-explanation.ensures.few)
    c.deliver.ensures.delivered

pub returns-clause-explained : goal.returns-clause-explained
returns-clause-explained g c =
    let named = c.args.named.now in
    let inputs = c.args.inputs.now in
    let e = c.in_ok-explanation.explanation in
    let given = option_map (λ bytes. bytes.items) inputs.certificate in
    let out : Output = record { before = g.W.Sink.taken c.args.out.now; after = g.W.Sink.taken c.deliver.new.out } in
    let err : Output = record { before = g.E.Sink.taken c.args.err.now; after = g.E.Sink.taken c.deliver.new.err } in
    let is : IsExplanation inputs.text.items given c.args.denied e =
    subst (λ given. IsExplanation inputs.text.items given c.args.denied e) c.as_deref-certificate.ensures.value
    (subst (λ text. IsExplanation text (option_map (λ bytes. bytes.now) c.as_deref-certificate.result) c.args.denied e) c.deref.ensures.value
    c.in_ok-explanation.ensures.explanation) in
    on_ok _ _ c.deliver.result
    (λ status d. explained (is_some named.plain) (g.F.Reporter.reported named.reporter.now named.name.now) inputs.text.items given c.args.denied e out err status is d)
    c.deliver.ensures.delivered
