use Rattle.sedck_commands.proofs.Common.{◌∙◌, sym}
use Rattle.sedck_commands.proofs.FaultLemmas2.{begins_here}
use Rattle.sedck_commands.specs.FirstFaults as fault
use Rattle.sedck_commands.proofs.texts.end_of_command.Goals as goal

pub returns-then-not-is_ending-clause-first : goal.returns-then-not-is_ending-clause-first
returns-then-not-is_ending-clause-first c = fault.EndFault.extra (rw c.in-Some.ensures.1 at c.skip-rest.ensures.1)
    (sym c.is_ending.ensures ∙ c.if-not-is_ending.true) (begins_here c.skip-rest.result c.skip-rest.ensures.2.whole c.in-Some.ensures.1 c.offset.ensures)
