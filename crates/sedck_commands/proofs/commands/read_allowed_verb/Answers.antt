use Rattle.sedck_commands.proofs.Common.{◌≡◌, ◌∷◌, sym, ◌∙◌, subst, length, unread, VerbText, address_of, HasLabel}
use Rattle.sedck_commands.proofs.ResultLemmas.{if_err_from}
use Rattle.sedck_commands.proofs.FaultLemmas3.{begins_there, verb_fault_at, jump_in}
use Rattle.sedck_commands.proofs.VerbBytes.{byte_of}
use Rattle.sedck_commands.specs.FirstFaults as fault
use Rattle.sedck_commands.proofs.commands.read_allowed_verb.Goals as goal

pub read_verb-requires : goal.read_verb-requires
read_verb-requires c = let at = c.in_ok-form.ensures.begins in (at.byte, at.is, at.after)

read : {text behind rest : _} {b : _} {verb : _} → text ≡ b ∷ behind → VerbText (b ∷ behind) verb rest → VerbText text verb rest
read {rest = rest} {verb = verb} e x = subst (λ t. VerbText t verb rest) (sym e) x

pub returns-clause-read : goal.returns-clause-read
returns-clause-read c = let at = c.in_ok-form.ensures.begins in read at.cut (c.in_ok-verb.ensures.read at.byte at.is)

pub returns-clause-jump : goal.returns-clause-jump
returns-clause-jump c =
    let at = c.in_ok-form.ensures.begins in jump_in c.in_ok-verb.verb c.args.reader.cursor c.in_ok-form.behind at.whole at.cut c.in_ok-verb.ensures.jump

pub returns-clause-taken : goal.returns-clause-taken
returns-clause-taken c =
    let at = c.in_ok-form.ensures.begins in
    let may = c.in_ok-form.ensures.may in
    (byte_of may.cut (read at.cut (c.in_ok-verb.ensures.read at.byte at.is))).takes_so _ _ may.taken

pub returns-clause-shallow : goal.returns-clause-shallow
returns-clause-shallow c = λ opens.
    let at = c.in_ok-form.ensures.begins in
    let may = c.in_ok-form.ensures.may in
    may.shallow ((byte_of may.cut (read at.cut (c.in_ok-verb.ensures.read at.byte at.is))).opening opens)

pub returns-clause-few : goal.returns-clause-few
returns-clause-few c = c.in_ok-form.ensures.may.few

pub returns-in_err-form-clause-first : goal.returns-in_err-form-clause-first
returns-in_err-form-clause-first c =
    let reader = c.args.reader in
    if_err_from _ c.from_residual.result _ c.from_residual.ensures.1 (λ memory text behind marks are run mark.
    fault.check are run (subst (λ n. fault.CheckFault (length reader.cursor.whole.now) (address_of c.args.address.now) n reader.depth reader.count
    (unread reader.cursor) c.in_err-form.field-0.0) mark c.in_err-form.ensures.first))

pub returns-in_err-verb-clause-first : goal.returns-in_err-verb-clause-first
returns-in_err-verb-clause-first c =
    let reader = c.args.reader in
    let at = c.in_ok-form.ensures.begins in
    if_err_from _ c.from_residual-in_err-verb.result _ c.from_residual-in_err-verb.ensures.1 (λ memory text behind marks are run mark.
    fault.verb are run (subst (λ n. fault.MayGoOn (address_of c.args.address.now) n reader.depth reader.count (unread reader.cursor)) mark
    c.in_ok-form.ensures.may)
    (verb_fault_at reader.cursor c.in_ok-form.behind at.whole at.cut (c.in_err-verb.ensures.first memory at.byte at.is)))

pub returns-in_err-check_brace-clause-first : goal.returns-in_err-check_brace-clause-first
returns-in_err-check_brace-clause-first c =
    let reader = c.args.reader in
    let at = c.in_ok-form.ensures.begins in
    let (tests, label, jumps, deep, here) = c.in_err-check_brace.ensures.first in
    if_err_from _ c.from_residual-in_err-check_brace.result _ c.from_residual-in_err-check_brace.ensures.1 (λ memory text behind marks are run mark.
    subst (fault.CommandFault (length reader.cursor.whole.now) (HasLabel reader.labels.now) reader.depth reader.count text)
    (sym (here c.in_ok-verb.rest.at c.in_ok-verb.ensures.brace))
    (fault.brace are run (subst (λ n. fault.MayGoOn (address_of c.args.address.now) n reader.depth reader.count (unread reader.cursor)) mark
    c.in_ok-form.ensures.may)
    (subst (λ v. VerbText (unread reader.cursor) v (unread c.in_ok-verb.rest)) jumps (read at.cut (c.in_ok-verb.ensures.read at.byte at.is)))
    deep (begins_there reader.cursor c.in_ok-verb.rest (c.in_ok-verb.ensures.same ∙ at.whole))))
