use Rattle.sedck_commands.proofs.Common.{length, unread, IsWrittenUpTo}
use Rattle.sedck_commands.proofs.delimited.read_expression.Given as goal

abbrev pub invariant-pieces : goal.invariant-pieces
invariant-pieces l = IsWrittenUpTo l.delimiter l.text l.rest

abbrev pub decreases-pieces : goal.decreases-pieces
decreases-pieces l = length (unread l.rest)
