use Rattle.sedck_commands.proofs.Common.{ap, file_byte, read, write}
use Rattle.sedck_commands.proofs.verbs.read_file_verb.Goals as goal

pub returns-in-Read-clause-read : goal.returns-in-Read-clause-read
returns-in-Read-clause-read c = read (ap file_byte c.in-Read.is) c.in_ok-name.ensures.read

pub returns-in-Write-clause-read : goal.returns-in-Write-clause-read
returns-in-Write-clause-read c = write (ap file_byte c.in-Write.is) c.in_ok-name.ensures.read
