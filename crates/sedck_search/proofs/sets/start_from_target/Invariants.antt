use Rattle.sedck_search.proofs.Common.{◌<◌, Node, IsNodeSet, IsClosed, IsIn, Reaches}
use Rattle.sedck_search.proofs.Scans.{AreScanned}
use Rattle.sedck_search.proofs.sets.start_from_target.Given as goal

-- where a set was taken over, it has only nodes that the node reaches
abbrev pub invariant-loop-edge : goal.invariant-loop-edge
invariant-loop-edge l = record {
  edges : AreScanned l.fn.known.graph.script.now l.fn.node l.yielded l.edge-iterator (λ _. Unit {0});
  is_set : 0 < l.size → IsNodeSet l.reached;
  closed : 0 < l.size → IsClosed l.fn.known.graph.script.now l.fn.known.graph.filter l.reached;
  reached : 0 < l.size → (m : Node) → IsIn l.reached m → Reaches l.fn.known.graph.script.now l.fn.known.graph.filter l.fn.node m;
}
