use Rattle.sedck_commands.proofs.Common.{ap, text_byte, append, change, insert}
use Rattle.sedck_commands.specs.FirstFaults as fault
use Rattle.sedck_commands.proofs.verbs.read_text_verb.Goals as goal

pub returns-in-Append-clause-read : goal.returns-in-Append-clause-read
returns-in-Append-clause-read c = append (ap text_byte c.in-Append.is) c.skip.ensures.1 c.in-Some.ensures.read

pub returns-in-Change-clause-read : goal.returns-in-Change-clause-read
returns-in-Change-clause-read c = change (ap text_byte c.in-Change.is) c.skip.ensures.1 c.in-Some.ensures.read

pub returns-in-Insert-clause-read : goal.returns-in-Insert-clause-read
returns-in-Insert-clause-read c = insert (ap text_byte c.in-Insert.is) c.skip.ensures.1 c.in-Some.ensures.read

pub returns-in_default-clause-first : goal.returns-in_default-clause-first
returns-in_default-clause-first c = rw c.offset.ensures (fault.missing c.skip.ensures.1 c.in_default.ensures.none)
