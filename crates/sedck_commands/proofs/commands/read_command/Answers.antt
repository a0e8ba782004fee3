use Rattle.sedck_commands.proofs.Common.{CommandText, refl, address_of, written_patterns, written_verb, ◌+◌, ap, arith, unread_length, ◌∙◌, subst, length, drop, unread, HasLabel, IsJumpIn}
use Rattle.sedck_commands.proofs.ResultLemmas.{if_err_from}
use Rattle.sedck_commands.proofs.CommandLemmas.{location_here, emptied_command}
use Rattle.sedck_commands.specs.FirstFaults as fault
use Rattle.sedck_commands.proofs.commands.read_command.Goals as goal

pub returns-clause-read : goal.returns-clause-read
returns-clause-read c =
    let same = c.split.ensures.ahead.whole ∙ c.in_ok-address.ensures.same in
    let command : CommandText (unread c.args.reader.cursor) (address_of c.in_ok-address.address) c.contains-negated.result (written_verb c.in_ok-verb.verb)
    (unread c.in_ok-verb.rest) = record {
      behind = unread c.in_ok-address.behind;
      addresses = c.in_ok-address.ensures.read;
      marks = c.split.result.0.now;
      begins = unread c.split.result.1;
      run = c.split.ensures.run;
      mark = c.contains-negated.ensures.value;
      verbs = c.in_ok-verb.ensures.read;
      taken = c.in_ok-verb.ensures.taken;
    } in (
      command,
      location_here c.args.reader.cursor c.split.result.1 c.in_ok-verb.rest same (c.in_ok-verb.ensures.same ∙ same) command refl
          c.offset-2.ensures c.offset-3.ensures c.offset-4.ensures,
    )

pub returns-clause-jump : goal.returns-clause-jump
returns-clause-jump c = rw c.offset-3.ensures (subst (λ w. IsJumpIn (length w.now) (drop (c.split.result.1.at + 1) w.now) c.in_ok-verb.verb)
    (c.split.ensures.ahead.whole ∙ c.in_ok-address.ensures.same) c.in_ok-verb.ensures.jump)

pub returns-in_err-address-clause-first : goal.returns-in_err-address-clause-first
returns-in_err-address-clause-first c = if_err_from _ c.from_residual.result _ c.from_residual.ensures.1
    (λ memory. fault.addresses (c.in_err-address.ensures.first memory))

pub returns-in_err-verb-clause-first : goal.returns-in_err-verb-clause-first
returns-in_err-verb-clause-first c =
    let reader = c.args.reader in
    if_err_from _ c.from_residual-in_err-verb.result _ c.from_residual-in_err-verb.ensures.1
    (λ memory. subst (λ w. fault.CommandFault (length w.now) (HasLabel reader.labels.now) reader.depth reader.count (unread reader.cursor)
    c.in_err-verb.field-0.0) (c.split.ensures.ahead.whole ∙ c.in_ok-address.ensures.same)
    (c.in_err-verb.ensures.first memory _ _ _ c.in_ok-address.ensures.all c.split.ensures.run c.contains-negated.ensures.value))

pub returns-clause-empty : goal.returns-clause-empty
returns-clause-empty c =
    let whole = c.args.reader.cursor.whole.now in
    let begins = c.split.result.1 in
    let size = ap (λ w. length w.now) (c.split.ensures.ahead.whole ∙ c.in_ok-address.ensures.same) in
    rw (c.or-empty.ensures, c.offset-2.ensures) (emptied_command (length whole) (written_patterns (written_verb c.in_ok-verb.verb)) c.in_ok-address.empty
    c.empty_verb.result c.in_ok-address.ensures.empty c.in_ok-address.ensures.all c.split.ensures.run
    (c.empty_verb.ensures (length whole) (unread begins) _ c.in_ok-verb.ensures.read (omega (arith, c.offset.ensures, unread_length begins, size))))
