use Rattle.sedck_script.proofs.Common.{refl, ◌≡◌, ◌∙◌, ℕ, List, Option, Some, None, true, map, sym, subst, ap, arith, item_of, if_err_from, Pattern, expressions, command_of, has_previous, item_patterns, has_some, both_ways, IsFirstEmpty, EmptyOf, LinksFault}
use Rattle.sedck_script.proofs.ProgramLemmas.{are_commands, first_lost, first_empty, all_known, no_patterns}
use Rattle.sedck_script.proofs.parsing.commands.Goals as goal

some_empty : (EndsAt : ℕ → Type 0) (ps : List Pattern) (o : Option ℕ) → IsFirstEmpty ps EndsAt o → has_previous ps ≡ true → (place : ℕ) × (o ≡ Some place)
some_empty EndsAt ps None h k = absurd (both_ways (has_previous ps) h k)
some_empty EndsAt ps (Some place) h k = (place, refl)

pub returns-clause-read : goal.returns-clause-read
returns-clause-read c =
    let items = c.args.progress.items.items in
    are_commands c.args.progress.labels c.requires.labels c.in_ok-commands.ensures.resolved
    (omega (arith, c.requires.few, c.requires.count))
    (λ h. let some = some_empty (EmptyOf c.args.text.now items) (item_patterns (map item_of items)) c.args.progress.empty c.requires.empty h in
    ap (λ v. has_some (expressions (map command_of v))) (sym c.deref.ensures.value) ∙ c.in_ok-check_previous.ensures.found some.0 some.1)

pub returns-in_err-commands-clause-first : goal.returns-in_err-commands-clause-first
returns-in_err-commands-clause-first c = if_err_from _ c.from_residual.result _ c.from_residual.ensures.1
    (λ memory read. first_lost c.args.progress.labels c.args.progress.items.items read.labels (c.in_err-commands.ensures.first memory)
    read.label_places read.spelled read.located)

pub returns-in_err-check_previous-clause-first : goal.returns-in_err-check_previous-clause-first
returns-in_err-check_previous-clause-first c =
    let fault = c.in_err-check_previous.ensures.fault in
    let items = c.args.progress.items.items in
    if_err_from _ c.from_residual-in_err-check_previous.result _ c.from_residual-in_err-check_previous.ensures.1
    (λ memory read. subst (LinksFault c.args.text.now (map item_of items) read.spelled) (sym fault.2)
    (first_empty items (subst (IsFirstEmpty (item_patterns (map item_of items)) (EmptyOf c.args.text.now items)) fault.1 read.empty) read.spelled read.located
    (all_known c.args.progress.labels items read.labels items c.in_ok-commands.ensures.known)
    (no_patterns c.in_ok-commands.ensures.resolved
    (ap (λ v. has_some (expressions (map command_of v))) (sym c.deref.ensures.value) ∙ c.in_err-check_previous.ensures.none))))
