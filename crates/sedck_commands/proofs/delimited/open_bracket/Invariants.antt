use Rattle.sedck_commands.proofs.Common.{length}
use Rattle.sedck_commands.proofs.BracketLemmas.{ClosedUpTo}
use Rattle.sedck_commands.proofs.delimited.open_bracket.Given as goal

abbrev pub invariant-loop-first : goal.invariant-loop-first
invariant-loop-first l = ClosedUpTo l.text l.rest

abbrev pub decreases-loop-first : goal.decreases-loop-first
decreases-loop-first l = length l.rest
