use Rattle.sedck_engines.proofs.GraphLines.{IsGraphUpTo}
use Rattle.sedck_engines.proofs.report.graph_report.Given as goal

abbrev pub invariant-loop-index : goal.invariant-loop-index
invariant-loop-index l = IsGraphUpTo l.script l.index l.initial.report.items l.report.items
