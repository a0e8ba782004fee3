use Rattle.sedck_explain_cli.proofs.Common.{◌≡◌, ◌∙◌, true, sym, subst, map, has_foreign}
use Rattle.sedck_explain_cli.proofs.CallStatuses.{foreign_said}
use Rattle.sedck_explain_cli.proofs.calls.explain_words.Goals as goal

pub shown-requires-then-has_foreign : goal.shown-requires-then-has_foreign
shown-requires-then-has_foreign g c =
    let request = c.args.session.now.request.now in
    foreign_said request.mends (g.O.Opener.known c.args.session.now.files.now) request.denied (map (λ word. word.now) c.args.words.now) c.in-Ok.call
    c.in_ok-refusal.refusal.explanation c.in-Ok.ensures.call
    (subst (λ given. has_foreign given ≡ true) c.deref.ensures.value (sym c.has_foreign.ensures ∙ c.if-has_foreign.true)) c.in_ok-refusal.ensures
