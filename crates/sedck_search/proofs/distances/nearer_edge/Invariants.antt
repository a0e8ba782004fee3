use Rattle.sedck_search.proofs.Common.{IsFollowed, HasDistance}
use Rattle.sedck_search.proofs.Scans.{AreScanned}
use Rattle.sedck_search.proofs.distances.nearer_edge.Given as goal

-- none of the edges so far is such a one
abbrev pub invariant-loop-edge : goal.invariant-loop-edge
invariant-loop-edge l = AreScanned l.fn.graph.script.now l.fn.node l.yielded l.edge-iterator (λ e. IsFollowed l.fn.graph.filter e.kind → ¬ HasDistance l.distances e.to l.fn.distance)
