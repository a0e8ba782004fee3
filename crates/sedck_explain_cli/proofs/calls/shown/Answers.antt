use Rattle.sedck_explain_cli.proofs.Common.{map, subst, Output, IsAnsweredCall}
use Rattle.sedck_explain_cli.proofs.Spelled.{answered_call}
use Rattle.sedck_explain_cli.proofs.calls.shown.Goals as goal

pub returns-in-Ok : goal.returns-in-Ok
returns-in-Ok g c =
    let k = g.O.Opener.known c.args.session.now.files.now in
    let denied = c.args.session.now.request.now.denied in
    let words = map (λ word. word.now) c.args.words.now in
    let out : Output = record { before = g.W.Sink.taken c.args.out.now; after = g.W.Sink.taken c.deliver.new.out } in
    let err : Output = record { before = g.E.Sink.taken c.args.err.now; after = g.E.Sink.taken c.deliver.new.err } in
    let mends = c.args.session.now.request.now.mends in
    subst (λ plain. IsAnsweredCall mends plain k denied words out err c.in-Ok.status) c.plain.ensures
    (answered_call mends _ _ k denied words c.args.said.now.explanation out err c.in-Ok.status c.requires c.in-Ok.ensures.delivered)
