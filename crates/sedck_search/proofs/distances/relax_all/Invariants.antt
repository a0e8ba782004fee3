use Rattle.sedck_search.proofs.Common.{◌≡◌, ◌+◌, ◌<◌, ◌≤◌, true, false, length, node_index, Node, IsIn, ArePathLengths, IsSettled}
use Rattle.sedck_search.specs.Private.Distances.{total}
use Rattle.sedck_search.proofs.distances.relax_all.Given as goal

-- as long as no distance is shorter, the nodes so far, from the last on, are settled
abbrev pub invariant-loop-step : goal.invariant-loop-step
invariant-loop-step l = record {
  some : ArePathLengths l.fn.graph.script.now l.fn.graph.filter l._to l.distances;
  shorter : l.shorter ≡ true → total l.distances < total l.initial.distances;
  same : l.shorter ≡ false → l.distances ≡ l.initial.distances;
  settled : l.shorter ≡ false → (n : Node) → IsIn l.reached n → length l.initial.distances ≤ node_index n + l.step → IsSettled l.fn.graph.script.now l.fn.graph.filter l.initial.distances n;
}
