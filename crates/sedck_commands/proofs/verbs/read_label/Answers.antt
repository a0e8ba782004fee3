use Rattle.sedck_commands.proofs.Common.{refl, ◌∙◌, ap, sym, subst, length, is_some, false≢true, unread, label}
use Rattle.sedck_commands.proofs.ResultLemmas.{if_err_from}
use Rattle.sedck_commands.proofs.FlagLemmas.{some_of}
use Rattle.sedck_commands.proofs.FaultLemmas3.{label_begins_there}
use Rattle.sedck_commands.specs.FirstFaults as fault
use Rattle.sedck_commands.proofs.verbs.read_label.Goals as goal

pub returns-clause-read : goal.returns-clause-read
returns-clause-read c = label refl c.in_ok-name.ensures.read.0 c.in_ok-name.ensures.read.1 c.in_ok-rest.ensures.read

pub returns-in_err-name-clause-first : goal.returns-in_err-name-clause-first
returns-in_err-name-clause-first c = if_err_from _ c.from_residual.result _ c.from_residual.ensures.1 (fault.definition c.in_err-name.ensures.first)

pub returns-then-is_some-clause-first : goal.returns-then-is_some-clause-first
returns-then-is_some-clause-first c =
    let label = c.in_ok-name.ensures in
    fault.duplicate label.at label.read.0.some label.free (some_of _ (ap is_some (sym c.place_of.ensures) ∙ sym c.is_some.ensures ∙ c.if-is_some.true))
    (label_begins_there c.args.text c.in_ok-name.behind c.in_ok-name.name.now c.in_ok-name.offset label.same label.offset)

pub returns-in_err-rest-clause-first : goal.returns-in_err-rest-clause-first
returns-in_err-rest-clause-first c =
    let label = c.in_ok-name.ensures in
    if_err_from _ c.from_residual-in_err-rest.result _ c.from_residual-in_err-rest.ensures.1
    (fault.ends label.at label.read.0.some label.free
    (λ known. false≢true (sym c.if-is_some.false ∙ c.is_some.ensures ∙ ap is_some (c.place_of.ensures ∙ known.1)))
    (subst (λ w. fault.EndFault (length w.now) (unread c.in_ok-name.behind) c.in_err-rest.field-0.0) label.same c.in_err-rest.ensures.first))
