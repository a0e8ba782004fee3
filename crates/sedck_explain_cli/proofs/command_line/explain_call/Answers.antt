use Rattle.sedck_explain_cli.proofs.Common.{◌∙◌, ap, map, subst, Output, is_plain, IsAnsweredCall}
use Rattle.sedck_explain_cli.proofs.command_line.explain_call.Goals as goal

pub returns-in-Ok-explain_words-clause-answered : goal.returns-in-Ok-explain_words-clause-answered
returns-in-Ok-explain_words-clause-answered g c = λ whole.
    let request = c.args.session.now.request.now in
    let out : Output = record { before = g.W.Sink.taken c.args.out.now; after = g.W.Sink.taken c.explain_words.new.out } in
    let err : Output = record { before = g.E.Sink.taken c.args.err.now; after = g.E.Sink.taken c.explain_words.new.err } in
    subst (λ words. IsAnsweredCall request.mends (is_plain request.format) (g.O.Opener.known c.args.session.now.files.now) request.denied words out err c.in-Ok-explain_words.status)
    (ap (map (λ word. word.now)) c.deref.ensures.value ∙ c.in-Ok.ensures) c.in-Ok-explain_words.ensures
