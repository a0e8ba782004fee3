use Rattle.sedck_search.proofs.Common.{ArePathLengths}
use Rattle.sedck_search.specs.Private.Distances.{total}
use Rattle.sedck_search.proofs.distances.settle.Given as goal

abbrev pub invariant-loop-to : goal.invariant-loop-to
invariant-loop-to l = ArePathLengths l.fn.graph.script.now l.fn.graph.filter l._to l.distances

abbrev pub decreases-loop-to : goal.decreases-loop-to
decreases-loop-to l = total l.distances
