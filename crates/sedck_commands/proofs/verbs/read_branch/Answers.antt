use Rattle.sedck_commands.proofs.Common.{option_copied}
use Rattle.sedck_commands.proofs.VerbCases.{jump_read}
use Rattle.sedck_commands.proofs.verbs.read_branch.Goals as goal

pub returns-clause-read : goal.returns-clause-read
returns-clause-read c = rw c.in_ok-jump.ensures.tests (jump_read (option_copied c.in_ok-jump.jump.label) c.in_ok-jump.ensures.read)
