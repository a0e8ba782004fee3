use Rattle.sedck_search.proofs.Common.{◌≡◌, ◌<◌, length, node_index, Node, Reaches}
use Rattle.sedck_search.proofs.Scans.{AreScanned}
use Rattle.sedck_search.proofs.components.lowest_link.Given as goal

-- the node that is linked to so far
abbrev pub invariant-loop-edge : goal.invariant-loop-edge
invariant-loop-edge l = record {
  edges : AreScanned l.fn.graph.script.now l.fn.node l.yielded l.edge-iterator (λ _. Unit {0});
  inside : l.lowest < length l.counts;
  reached : (m : Node) → node_index m ≡ l.lowest → Reaches l.fn.graph.script.now l.fn.graph.filter l.fn.node m;
}
