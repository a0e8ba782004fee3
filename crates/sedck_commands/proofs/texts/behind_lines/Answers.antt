use Rattle.sedck_commands.proofs.PartLemmas.{passed_byte, passed_pair, passed_last, passed_end, passed_line}
use Rattle.sedck_commands.proofs.texts.behind_lines.Goals as goal

pub returns-then-first-eq10 : goal.returns-then-first-eq10
returns-then-first-eq10 c = passed_line c.loop-first.invariant c.in-Some.ensures.cases.0 c.if-first-eq10.true

pub loop-first-preserved-in-Some-split_first : goal.loop-first-preserved-in-Some-split_first
loop-first-preserved-in-Some-split_first c =
    passed_pair c.loop-first.invariant c.in-Some.ensures.cases.0 c.in-Some-split_first.ensures.cases.0 c.if-first-eq92.true

pub loop-first-preserved-in_default-split_first : goal.loop-first-preserved-in_default-split_first
loop-first-preserved-in_default-split_first c =
    passed_last c.loop-first.invariant c.in-Some.ensures.cases.0 c.in_default-split_first.ensures.cases c.if-first-eq92.true

pub loop-first-preserved : goal.loop-first-preserved
loop-first-preserved c = passed_byte c.loop-first.invariant c.in-Some.ensures.cases.0 c.if-first-eq10.false c.if-first-eq92.false

pub returns : goal.returns
returns c = passed_end c.loop-first.invariant c.in_default.ensures.cases
