use Rattle.sedck_commands.proofs.Common.{inl, inr}
use Rattle.sedck_commands.proofs.PartLemmas.{given_at_once, given_below, given_behind, no_given_end, no_given_blank, no_given}
use Rattle.sedck_commands.proofs.ResultLemmas.{if_none_always}
use Rattle.sedck_commands.proofs.texts.read_text.Goals as goal
use Rattle.sedck_commands.proofs.texts.read_text.Goals.{then-plain-eq10-via-then-plain-eq10, then-plain-eq10-via-else-plain-eq10+then-plain-eq92}

pub returns-then-first-ne92-clause-read : goal.returns-then-first-ne92-clause-read
returns-then-first-ne92-clause-read c = given_at_once c.in_ok-first.ensures.cut c.if-first-eq10.false c.if-first-ne92.true c.split_lines.ensures.lines

pub returns-then-next-eq10-clause-read : goal.returns-then-next-eq10-clause-read
returns-then-next-eq10-clause-read c =
    given_below c.in_ok-first.ensures.cut c.in_ok-next.ensures.cut c.if-first-ne92.false c.if-next-eq10.true c.split_lines-then-next-eq10.ensures.lines

pub returns-then-plain-eq10-clause-none : goal.returns-then-plain-eq10-clause-none
returns-then-plain-eq10-clause-none c = λ bytes rest x.
    no_given c.in_ok-first.ensures.cut c.if-first-ne92.false c.in_ok-next.ensures.cut c.if-next-eq10.false c.skip.ensures.1
    c.in_ok-plain.ensures.1
    (elim c.then-plain-eq10.branch [
      | then-plain-eq10-via-then-plain-eq10 w ↦ inl w.if-plain-eq10.true
      | then-plain-eq10-via-else-plain-eq10+then-plain-eq92 w ↦ inr w.if-plain-eq92.true
    ]) x

pub returns-clause-read : goal.returns-clause-read
returns-clause-read c =
    given_behind c.in_ok-first.ensures.cut c.if-first-ne92.false c.skip.ensures.1 c.in_ok-plain.ensures.1 c.if-plain-eq10.false
    c.if-plain-eq92.false c.split_lines-2.ensures.lines

pub returns-in_err-next-clause-none : goal.returns-in_err-next-clause-none
returns-in_err-next-clause-none c = if_none_always c.from_residual-in_err-next.result (λ bytes rest x. no_given_end c.in_ok-first.ensures.cut c.if-first-ne92.false c.in_err-next.ensures.cut x)

pub returns-in_err-plain-clause-none : goal.returns-in_err-plain-clause-none
returns-in_err-plain-clause-none c = if_none_always c.from_residual-in_err-plain.result (λ bytes rest x. no_given_blank
    c.in_ok-first.ensures.cut c.if-first-ne92.false c.in_ok-next.ensures.cut c.if-next-eq10.false c.skip.ensures.1 c.in_err-plain.ensures x)
