use Rattle.sedck_search.proofs.Common.{AreSets, IsOrderOf, ArePartlyCounted}
use Rattle.sedck_search.proofs.counting.count_side.Given as goal

abbrev pub invariant-loop-step : goal.invariant-loop-step
invariant-loop-step l = record {
  order : IsOrderOf l.fn.graph.script.now l.fn.graph.filter l.order;
  sets : AreSets l.fn.graph.script.now l.fn.graph.filter l.sets;
  counted : ArePartlyCounted l.fn.graph.script.now l.fn.graph.filter l.counts;
}
