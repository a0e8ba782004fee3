use Rattle.sedck_explain_cli.proofs.Common.{sym, subst, inr, Output, scripts_of, SpellsScript, StatusAt}
use Rattle.sedck_explain_cli.proofs.Spelled.{one_greatest, plain_status, plain_spelled}
use Rattle.sedck_explain_cli.proofs.command_line.spell_script.Goals as goal

pub returns-in-Ok-clause-within : goal.returns-in-Ok-clause-within
returns-in-Ok-clause-within g c = λ none. c.in-Ok.ensures.is_explained.few.2 none

pub returns-in-Ok-clause-status : goal.returns-in-Ok-clause-status
returns-in-Ok-clause-status g c = λ valid whole.
    let k = g.O.Opener.known c.args.session.now.files.now in
    let request = c.args.session.now.request.now in
    one_greatest (StatusAt k request) (scripts_of request) c.in-Some.path.now c.in-Ok.status c.in-Some.ensures
    (plain_status k request c.in-Some.path.now _ _ c.in-Ok.status c.in-Ok.ensures)

pub returns-in-Ok-clause-spelled : goal.returns-in-Ok-clause-spelled
returns-in-Ok-clause-spelled g c = λ valid whole.
    let k = g.O.Opener.known c.args.session.now.files.now in
    let request = c.args.session.now.request.now in
    let out : Output = record { before = g.W.Sink.taken c.args.out.now; after = g.W.Sink.taken c.explain_path.new.out } in
    subst (λ paths. SpellsScript k request paths out c.in-Ok.status) (sym c.in-Some.ensures)
    (plain_spelled k request c.in-Some.path.now out _ c.in-Ok.status c.in-Ok.ensures)

pub returns-in-Ok-clause-silent : goal.returns-in-Ok-clause-silent
returns-in-Ok-clause-silent g c = λ accepted. c.in-Ok.ensures.is_explained.silent (inr accepted)
