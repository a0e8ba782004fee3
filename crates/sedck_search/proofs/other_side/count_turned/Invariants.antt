use Rattle.sedck_search.proofs.Common.{ArePartlyCounted}
use Rattle.sedck_search.proofs.other_side.count_turned.Given as goal

abbrev pub invariant-loop-step : goal.invariant-loop-step
invariant-loop-step l = ArePartlyCounted l.fn.graph.script.now l.fn.graph.filter l.counts
