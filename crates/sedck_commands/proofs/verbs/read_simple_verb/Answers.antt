use Rattle.sedck_commands.proofs.Common.{simple}
use Rattle.sedck_commands.proofs.verbs.read_simple_verb.Goals as goal

pub returns-clause-read : goal.returns-clause-read
returns-clause-read c = λ b s. simple s c.in_ok-rest.ensures.read
