use Rattle.sedck_commands.proofs.Common.{length}
use Rattle.sedck_commands.proofs.PartLemmas.{LinesPassed}
use Rattle.sedck_commands.proofs.texts.behind_lines.Given as goal

abbrev pub invariant-loop-first : goal.invariant-loop-first
invariant-loop-first l = LinesPassed l.text l.rest

abbrev pub decreases-loop-first : goal.decreases-loop-first
decreases-loop-first l = length l.rest
