use Rattle.sedck_commands.proofs.BracketLemmas.{closed_byte, closed_pair, closed_last, closed_list, closed_all, closed_until}
use Rattle.sedck_commands.proofs.delimited.open_bracket.Goals as goal

pub returns-in_default-behind_bracket_list-clause-closed : goal.returns-in_default-behind_bracket_list-clause-closed
returns-in_default-behind_bracket_list-clause-closed c = closed_until c.loop-first.invariant c.in-Some.ensures.cases.0 c.if-first-eq91.true

pub loop-first-preserved-then-first-eq91 : goal.loop-first-preserved-then-first-eq91
loop-first-preserved-then-first-eq91 c =
    closed_list c.loop-first.invariant c.in-Some.ensures.cases.0 c.if-first-eq91.true c.in-Some-behind_bracket_list.ensures.some

pub loop-first-preserved-in-Some-split_first : goal.loop-first-preserved-in-Some-split_first
loop-first-preserved-in-Some-split_first c =
    closed_pair c.loop-first.invariant c.in-Some.ensures.cases.0 c.in-Some-split_first.ensures.cases.0 c.if-first-eq92.true

pub loop-first-preserved-in_default-split_first : goal.loop-first-preserved-in_default-split_first
loop-first-preserved-in_default-split_first c =
    closed_last c.loop-first.invariant c.in-Some.ensures.cases.0 c.in_default-split_first.ensures.cases c.if-first-eq92.true

pub loop-first-preserved : goal.loop-first-preserved
loop-first-preserved c = closed_byte c.loop-first.invariant c.in-Some.ensures.cases.0 c.if-first-eq91.false c.if-first-eq92.false

pub returns-clause-none : goal.returns-clause-none
returns-clause-none c = closed_all c.loop-first.invariant c.in_default.ensures.cases
