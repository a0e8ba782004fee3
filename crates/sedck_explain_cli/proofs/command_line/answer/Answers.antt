use Rattle.sedck_explain_cli.proofs.Common.{◌∙◌, ap, map, sym, subst, option_map, Output, call_of, is_plain, IsAnsweredCall}
use Rattle.sedck_explain_cli.proofs.Answered.{scripts_status, plain_scripts, plain_found, found_spelled, script_spelled, call_status, call_spelled}
use Rattle.sedck_explain_cli.proofs.command_line.answer.Goals as goal

pub returns-then-plain-clause-status : goal.returns-then-plain-clause-status
returns-then-plain-clause-status g c valid whole =
    let out : Output = record { before = g.W.Sink.taken c.args.out.now; after = g.W.Sink.taken c.spell_found.new.out } in
    plain_found (g.O.Opener.known c.args.session.now.files.now) (g.F.Finder.found c.args.session.now.finder.now) c.args.session.now.request.now
    (call_of c.args.words.now) out c.spell_found.result (sym c.is_plain-plain.ensures ∙ c.if-plain.true) c.if-request.true (c.spell_found.ensures.spelled valid whole)

pub returns-then-plain-clause-spelled : goal.returns-then-plain-clause-spelled
returns-then-plain-clause-spelled g c valid whole plain =
    let out : Output = record { before = g.W.Sink.taken c.args.out.now; after = g.W.Sink.taken c.spell_found.new.out } in
    found_spelled (g.O.Opener.known c.args.session.now.files.now) (g.F.Finder.found c.args.session.now.finder.now) c.args.session.now.request.now
    (call_of c.args.words.now) out c.spell_found.result c.if-request.true (c.spell_found.ensures.spelled valid whole)

pub returns-then-request-2-clause-status : goal.returns-then-request-2-clause-status
returns-then-request-2-clause-status g c valid whole =
    let k = g.O.Opener.known c.args.session.now.files.now in
    let request = c.args.session.now.request.now in
    let out : Output = record { before = g.W.Sink.taken c.args.out.now; after = g.W.Sink.taken c.explain_call.new.out } in
    let err : Output = record { before = g.E.Sink.taken c.args.err.now; after = g.E.Sink.taken c.explain_call.new.err } in
    let answered = subst (λ call. IsAnsweredCall request.mends (is_plain request.format) k request.denied (map (λ word. word.items) call) out err c.explain_call.result)
    c.deref.ensures.value (c.explain_call.ensures.answered whole) in
    call_status k (g.F.Finder.found c.args.session.now.finder.now) request (call_of c.args.words.now) (map (λ word. word.items) c.in-Some-call.call.items)
    c.explain_call.result c.if-request.false c.if-request-2.true (ap (option_map (λ call. map (λ word. word.items) call.items)) c.in-Some-call.is) answered.has_status

pub returns-then-request-2-clause-spelled : goal.returns-then-request-2-clause-spelled
returns-then-request-2-clause-spelled g c valid whole plain =
    let k = g.O.Opener.known c.args.session.now.files.now in
    let request = c.args.session.now.request.now in
    let out : Output = record { before = g.W.Sink.taken c.args.out.now; after = g.W.Sink.taken c.explain_call.new.out } in
    let err : Output = record { before = g.E.Sink.taken c.args.err.now; after = g.E.Sink.taken c.explain_call.new.err } in
    let answered = subst (λ call. IsAnsweredCall request.mends (is_plain request.format) k request.denied (map (λ word. word.items) call) out err c.explain_call.result)
    c.deref.ensures.value (c.explain_call.ensures.answered whole) in
    call_spelled k (g.F.Finder.found c.args.session.now.finder.now) request (call_of c.args.words.now) (map (λ word. word.items) c.in-Some-call.call.items)
    out c.explain_call.result c.if-request.false c.if-request-2.true (ap (option_map (λ call. map (λ word. word.items) call.items)) c.in-Some-call.is)
    (answered.spelled plain)

pub returns-then-request-2-clause-silent : goal.returns-then-request-2-clause-silent
returns-then-request-2-clause-silent g c valid whole = (c.explain_call.ensures.answered whole).silent

pub returns-then-plain-2-clause-status : goal.returns-then-plain-2-clause-status
returns-then-plain-2-clause-status g c valid whole =
    plain_scripts (g.O.Opener.known c.args.session.now.files.now) (g.F.Finder.found c.args.session.now.finder.now) c.args.session.now.request.now (call_of c.args.words.now)
    c.spell_script.result (sym c.is_plain-plain.ensures ∙ c.if-plain-2.true) c.if-request.false c.if-request-2.false (c.spell_script.ensures.status valid whole)

pub returns-then-plain-2-clause-spelled : goal.returns-then-plain-2-clause-spelled
returns-then-plain-2-clause-spelled g c valid whole plain =
    let out : Output = record { before = g.W.Sink.taken c.args.out.now; after = g.W.Sink.taken c.spell_script.new.out } in
    script_spelled (g.O.Opener.known c.args.session.now.files.now) (g.F.Finder.found c.args.session.now.finder.now) c.args.session.now.request.now
    (call_of c.args.words.now) out c.spell_script.result c.if-request.false c.if-request-2.false (c.spell_script.ensures.spelled valid whole)

pub returns-clause-status : goal.returns-clause-status
returns-clause-status g c valid whole =
    scripts_status (g.O.Opener.known c.args.session.now.files.now) (g.F.Finder.found c.args.session.now.finder.now) c.args.session.now.request.now (call_of c.args.words.now)
    c.explain_all.result (sym c.is_plain-plain.ensures ∙ c.if-plain-2.false) c.if-request.false c.if-request-2.false
    (c.explain_all.ensures.greatest whole)
