use Rattle.sedck_search.proofs.Common.{◌≡◌, AreSets, ArePartlyCounted}
use Rattle.sedck_search.proofs.members.count_component.Given as goal

abbrev pub invariant-loop-position : goal.invariant-loop-position
invariant-loop-position l = record {
  same : l.sets.reached ≡ l.initial.sets.reached;
  sets : AreSets l.fn.graph.script.now l.fn.graph.filter l.sets;
  counted : ArePartlyCounted l.fn.graph.script.now l.fn.graph.filter l.counts;
}
