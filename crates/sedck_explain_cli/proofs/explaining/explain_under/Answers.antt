use Rattle.sedck_explain_cli.proofs.Common.{◌≡◌, true, IfSome, sym, subst, option_map, is_some, IsExplanation, on_ok, Refused, Output}
use Rattle.sedck_plain.specs.Mended.{IsMended}
use Rattle.sedck_explain_cli.proofs.Mended.{delivered_same, explained_under}
use Rattle.sedck_explain_cli.proofs.explaining.explain_under.Goals as goal

pub returns-in_default : goal.returns-in_default
returns-in_default g c =
    let named = c.args.named.now in
    let inputs = c.args.inputs.now in
    let e = c.in_ok-explanation.explanation in
    let given = option_map (λ bytes. bytes.items) inputs.certificate in
    let out : Output = record { before = g.W.Sink.taken c.args.out.now; after = g.W.Sink.taken c.deliver.new.out } in
    let err : Output = record { before = g.E.Sink.taken c.args.err.now; after = g.E.Sink.taken c.deliver.new.err } in
    let is : IsExplanation inputs.text.items given c.args.denied e =
    subst (λ given. IsExplanation inputs.text.items given c.args.denied e) c.as_deref-given.ensures.value
    (subst (λ text. IsExplanation text (option_map (λ bytes. bytes.now) c.as_deref-given.result) c.args.denied e) c.deref.ensures.value
    c.in_ok-explanation.ensures.explanation) in
    on_ok _ _ c.deliver.result
    (λ status d. delivered_same true (is_some named.plain) (g.F.Reporter.reported named.reporter.now named.name.now e) inputs.text.items given
    c.args.denied e out err status is c.in_ok-explanation.ensures.few d)
    c.deliver.ensures.delivered

pub returns-then-matches : goal.returns-then-matches
returns-then-matches g c =
    let named = c.args.named.now in
    let inputs = c.args.inputs.now in
    let e = c.in_ok-explanation.explanation in
    let given = option_map (λ bytes. bytes.items) inputs.certificate in
    let out : Output = record { before = g.W.Sink.taken c.args.out.now; after = g.W.Sink.taken c.deliver-then-matches.new.out } in
    let err : Output = record { before = g.E.Sink.taken c.args.err.now; after = g.E.Sink.taken c.deliver-then-matches.new.err } in
    let is : IsExplanation inputs.text.items given c.args.denied e =
    subst (λ given. IsExplanation inputs.text.items given c.args.denied e) c.as_deref-given.ensures.value
    (subst (λ text. IsExplanation text (option_map (λ bytes. bytes.now) c.as_deref-given.result) c.args.denied e) c.deref.ensures.value
    c.in_ok-explanation.ensures.explanation) in
    on_ok _ _ c.deliver-then-matches.result
    (λ status d. delivered_same true (is_some named.plain) (g.F.Reporter.reported named.reporter.now named.name.now e) inputs.text.items given
    c.args.denied e out err status is c.in_ok-explanation.ensures.few d)
    c.deliver-then-matches.ensures.delivered

pub returns : goal.returns
returns g c =
    let named = c.args.named.now in
    let inputs = c.args.inputs.now in
    let e = c.in_ok-explanation.explanation in
    let given = option_map (λ bytes. bytes.items) inputs.certificate in
    let out : Output = record { before = g.W.Sink.taken c.args.out.now; after = g.W.Sink.taken c.deliver_under.new.out } in
    let err : Output = record { before = g.E.Sink.taken c.args.err.now; after = g.E.Sink.taken c.deliver_under.new.err } in
    let is : IsExplanation inputs.text.items given c.args.denied e =
    subst (λ given. IsExplanation inputs.text.items given c.args.denied e) c.as_deref-given.ensures.value
    (subst (λ text. IsExplanation text (option_map (λ bytes. bytes.now) c.as_deref-given.result) c.args.denied e) c.deref.ensures.value
    c.in_ok-explanation.ensures.explanation) in
    let mended = c.in-Some.mended.text.items in
    let found : (true ≡ true) × (e.status ≡ Refused) × IsMended c.deref-2.result.now mended =
    subst (λ found. IfSome found (λ m. (true ≡ true) × (e.status ≡ Refused) × IsMended c.deref-2.result.now m.text.items)) c.in-Some.is c.in_ok-mended.ensures in
    let is_mended : IsMended inputs.text.items c.deref-3.result.now =
    subst (λ m. IsMended inputs.text.items m) (sym c.deref-3.ensures.value) (subst (λ t. IsMended t mended) c.deref-2.ensures.value found.2) in
    on_ok _ _ c.deliver_under.result
    (λ status d. explained_under (is_some named.plain) inputs.text.items c.deref-3.result.now given c.args.denied e c.in_ok-other.other c.in_ok-other-2.other
    out err status is_mended is found.1 c.in_ok-other.ensures.explanation c.in_ok-other.ensures.few (record {
      status = c.in_ok-other-2.ensures.status;
      script = c.in_ok-other-2.ensures.script;
      source = c.in_ok-other-2.ensures.source;
    }) d)
    c.deliver_under.ensures
