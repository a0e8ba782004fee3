use Rattle.sedck_search.proofs.Common.{ArePathLengths}
use Rattle.sedck_search.proofs.distances.relax_in_order.Given as goal

abbrev pub invariant-loop-index : goal.invariant-loop-index
invariant-loop-index l = ArePathLengths l.fn.graph.script.now l.fn.graph.filter l._to l.distances
