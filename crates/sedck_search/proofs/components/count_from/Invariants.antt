use Rattle.sedck_search.proofs.Common.{◌<◌, length, AreSets, IsOrderOf, ArePartlyCounted}
use Rattle.sedck_search.proofs.components.count_from.Given as goal

abbrev pub invariant-loop : goal.invariant-loop
invariant-loop l = record {
  order : IsOrderOf l.fn.graph.script.now l.fn.graph.filter l.order;
  sets : AreSets l.fn.graph.script.now l.fn.graph.filter l.sets;
  counted : ArePartlyCounted l.fn.graph.script.now l.fn.graph.filter l.counts;
  at : l.at < length l.counts;
}
