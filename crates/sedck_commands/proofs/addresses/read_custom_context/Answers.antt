use Rattle.sedck_commands.proofs.ResultLemmas.{if_err_more}
use Rattle.sedck_commands.proofs.Common.{ap, ◌∙◌, sym, ◌∷◌, length, unread, subst, refl, PatternFault}
use Rattle.sedck_commands.specs.FirstFaults as first
use Rattle.sedck_commands.proofs.addresses.read_custom_context.Goals as goal

pub returns-in_default-clause-first : goal.returns-in_default-clause-first
returns-in_default-clause-first c = λ memory begins e at. first.undelimited e (rw c.in_default.ensures.cut tt) at

pub returns-then-not-is_delimiter-clause-first : goal.returns-then-not-is_delimiter-clause-first
returns-then-not-is_delimiter-clause-first c = λ memory begins e at.
    first.undelimited e (rw c.in-Some.ensures.cut (rw (sym c.is_delimiter.ensures ∙ c.if-not-is_delimiter.true) refl)) at

pub returns-clause-first : goal.returns-clause-first
returns-clause-first c = if_err_more c.read_context.result
    (λ fault h memory begins e at. first.custom (e ∙ ap (λ t. 92 ∷ t) c.in-Some.ensures.cut)
    (sym c.is_delimiter.ensures ∙ c.if-not-is_delimiter.false) at
    (subst (λ w. PatternFault (length w.now) c.args.opening c.in-Some.delimiter (unread c.in-Some.behind) fault) c.in-Some.ensures.ahead.0.whole (h memory)))
    c.read_context.ensures.first
