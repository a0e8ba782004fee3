use Rattle.sedck_commands.proofs.Common.{◌<◌, length, ◌∙◌, sym, arith, nat_tests}
use Rattle.sedck_commands.proofs.FaultLemmas2.{begins_behind, no_line, control_begins, control_within}
use Rattle.sedck_commands.specs.FirstFaults as fault
use Rattle.sedck_commands.proofs.names.read_name.Goals as goal

pub returns-then-is_empty-clause-first : goal.returns-then-is_empty-clause-first
returns-then-is_empty-clause-first c =
    fault.NameFault.missing c.skip-begins.ensures.1 (no_line c.split.ensures.run (grind (arith, nat_tests, c.is_empty.ensures, c.if-is_empty.true)))

pub overflow_sub-result : goal.overflow_sub-result
overflow_sub-result c =
    omega (arith, control_within c.skip-begins.result c.split.result.1 c.split.ensures.ahead c.in-Some.ensures, c.offset.ensures)

pub returns-in-Some-clause-first : goal.returns-in-Some-clause-first
returns-in-Some-clause-first c =
    fault.NameFault.control c.skip-begins.ensures.1 c.split.ensures.run c.in-Some.ensures
    (control_begins c.skip-begins.result c.split.result.1 c.skip-begins.ensures.2.whole c.split.ensures.ahead c.in-Some.ensures c.offset.ensures)

pub returns-then-is_continued-clause-first : goal.returns-then-is_continued-clause-first
returns-then-is_continued-clause-first c =
    let over = sym c.is_continued.ensures ∙ c.if-is_continued.true in
    let some : 0 < length c.split.result.0.now = grind (arith, nat_tests, c.is_empty.ensures, c.if-is_empty.false) in
    fault.NameFault.joined c.skip-begins.ensures.1 c.split.ensures.run some c.in_default.ensures
    (grind (arith, c.is_empty-2.ensures, c.if-not-is_empty.true, c.unread.ensures)) over
    (begins_behind c.skip-begins.result c.split.result.1 c.split.result.0.now c.skip-begins.ensures.2.whole c.split.ensures.ahead over
    c.offset-then-is_continued.ensures)
