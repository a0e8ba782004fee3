use Rattle.sedck_explain_cli.proofs.Common.{◌≡◌, true, IfSome, map, sym, subst, on_ok, Refused, Output, is_plain}
use Rattle.sedck_explain_cli.proofs.CallStatuses.{judged_said}
use Rattle.sedck_plain.specs.Mended.{IsMended}
use Rattle.sedck_explain_cli.proofs.Mended.{answered_under}
use Rattle.sedck_explain_cli.proofs.calls.shown_judged.Goals as goal

pub shown-requires : goal.shown-requires
shown-requires g c =
    let request = c.args.session.now.request.now in
    judged_said request.mends (g.O.Opener.known c.args.session.now.files.now) request.denied (map (λ word. word.now) c.args.words.now)
    c.args.judged.call.now c.args.judged.text.now c.args.judged.said.explanation c.requires

pub shown-requires-then-matches : goal.shown-requires-then-matches
shown-requires-then-matches g c =
    let request = c.args.session.now.request.now in
    judged_said request.mends (g.O.Opener.known c.args.session.now.files.now) request.denied (map (λ word. word.now) c.args.words.now)
    c.args.judged.call.now c.args.judged.text.now c.args.judged.said.explanation c.requires

pub returns : goal.returns
returns g c =
    let k = g.O.Opener.known c.args.session.now.files.now in
    let request = c.args.session.now.request.now in
    let words = map (λ word. word.now) c.args.words.now in
    let out : Output = record { before = g.W.Sink.taken c.args.out.now; after = g.W.Sink.taken c.shown_under.new.out } in
    let err : Output = record { before = g.E.Sink.taken c.args.err.now; after = g.E.Sink.taken c.shown_under.new.err } in
    let e = c.args.judged.said.explanation in
    let text = c.args.judged.text.now in
    let mended = c.in-Some.mended.text.items in
    let found : (request.mends ≡ true) × (e.status ≡ Refused) × IsMended text mended =
    subst (λ found. IfSome found (λ m. (request.mends ≡ true) × (e.status ≡ Refused) × IsMended text m.text.items)) c.in-Some.is c.in_ok-mended.ensures in
    let is_mended : IsMended text c.deref.result.now = subst (λ m. IsMended text m) (sym c.deref.ensures.value) found.2 in
    on_ok _ _ c.shown_under.result
    (λ status d. answered_under request.mends (is_plain request.format) k request.denied words c.args.judged.call.now c.args.judged.text.now
    c.deref.result.now c.args.judged.said.explanation c.in_ok-explanation.explanation c.in_ok-explanation-2.explanation out err status
    found.0 is_mended c.requires found.1 c.in_ok-explanation.ensures.called c.in_ok-explanation.ensures.few
    c.in_ok-explanation.ensures.yes (record {
      status = c.in_ok-explanation-2.ensures.status;
      script = c.in_ok-explanation-2.ensures.script;
      source = c.in_ok-explanation-2.ensures.source;
    }) d)
    c.shown_under.ensures
