use Rattle.sedck_explain_cli.proofs.Common.{Output}
use Rattle.sedck_explain_cli.proofs.Answered.{answered, helped, written, help_written}
use Rattle.sedck_explain_cli.proofs.command_line.program_over.Goals as goal

pub returns-in-Ok-clause-answered : goal.returns-in-Ok-clause-answered
returns-in-Ok-clause-answered g c valid whole =
    answered (g.O.Opener.known c.args.system.now.files.now) (g.F.Finder.found c.args.system.now.finder.now) c.args.words.now c.deref.result.now c.in-Ok.request c.answer.result c.deref.ensures.value
    c.in-Ok.ensures (c.answer.ensures.status valid whole)

pub returns-in-Err-clause-answered : goal.returns-in-Err-clause-answered
returns-in-Err-clause-answered g c valid whole =
    helped (g.O.Opener.known c.args.system.now.files.now) (g.F.Finder.found c.args.system.now.finder.now) c.args.words.now c.deref-in-Err.result.now c.refuse_words.result c.deref-in-Err.ensures.value
    (c.refuse_words.ensures.help valid whole)

pub returns-in-Ok-clause-spelled : goal.returns-in-Ok-clause-spelled
returns-in-Ok-clause-spelled g c valid whole =
    let out : Output = record { before = g.W.Sink.taken c.args.out.now; after = g.W.Sink.taken c.answer.new.out } in
    written (g.O.Opener.known c.args.system.now.files.now) (g.F.Finder.found c.args.system.now.finder.now) c.args.words.now c.deref.result.now c.in-Ok.request out c.answer.result
    c.deref.ensures.value c.in-Ok.ensures (c.answer.ensures.spelled valid whole)

pub returns-in-Err-clause-spelled : goal.returns-in-Err-clause-spelled
returns-in-Err-clause-spelled g c valid whole =
    let out : Output = record { before = g.W.Sink.taken c.args.out.now; after = g.W.Sink.taken c.refuse_words.new.out } in
    help_written (g.O.Opener.known c.args.system.now.files.now) (g.F.Finder.found c.args.system.now.finder.now) c.args.words.now c.deref-in-Err.result.now out c.refuse_words.result
    c.deref-in-Err.ensures.value (c.refuse_words.ensures.help valid whole).1
