use Rattle.sedck_search.proofs.Scans.{AreScanned}
use Rattle.sedck_search.proofs.components.next_unvisited.Given as goal

abbrev pub invariant-loop-edge : goal.invariant-loop-edge
invariant-loop-edge l = AreScanned l.fn.graph.script.now l.fn.node l.yielded l.edge-iterator (λ _. Unit {0})
