use Rattle.sedck_commands.proofs.Common.{arith, line, length, unread_length, subst, unread, PatternFault}
use Rattle.sedck_commands.proofs.ResultLemmas.{if_ok_more, if_err_more}
use Rattle.sedck_commands.proofs.AddressLemmas.{last_text, slash_text, custom_text, only_digit}
use Rattle.sedck_commands.specs.FirstFaults as first
use Rattle.sedck_commands.proofs.addresses.read_place.Goals as goal

pub returns-then-first-eq36-clause-read : goal.returns-then-first-eq36-clause-read
returns-then-first-eq36-clause-read c = last_text c.requires.first c.if-first-eq36.true

pub returns-then-first-eq47-clause-read : goal.returns-then-first-eq47-clause-read
returns-then-first-eq47-clause-read c = if_ok_more c.read_context.result (λ x h. slash_text c.requires.first c.if-first-eq47.true h) c.read_context.ensures.read

pub returns-then-first-eq92-clause-read : goal.returns-then-first-eq92-clause-read
returns-then-first-eq92-clause-read c = if_ok_more c.read_custom_context.result
    (λ x h. custom_text c.requires.first c.if-first-eq92.true h) c.read_custom_context.ensures.read

pub returns-in-Some-clause-read : goal.returns-in-Some-clause-read
returns-in-Some-clause-read c = line c.in-Some.ensures.read

pub returns-then-first-eq47-clause-first : goal.returns-then-first-eq47-clause-first
returns-then-first-eq47-clause-first c = if_err_more c.read_context.result
    (λ f h memory. first.context (rw c.if-first-eq47.true at c.requires.first) (rw c.offset.ensures (unread_length c.args.text))
    (subst (λ w. PatternFault (length w.now) c.offset.result 47 (unread c.args.behind) f) c.requires.same (h memory))) c.read_context.ensures.first

pub returns-in-None-clause-first : goal.returns-in-None-clause-first
returns-in-None-clause-first c = λ memory. first.number c.requires.first
    (only_digit c.args.first c.requires.begins (λ e. omega arith) (λ e. omega arith) (λ e. omega arith)) c.in-None.ensures.none
    (rw c.offset-in-None.ensures (unread_length c.args.text))
