use Rattle.sedck_search.proofs.Common.{IsFollowed, IsIn, AddsTargets, AreSearchSets}
use Rattle.sedck_search.proofs.Scans.{AreScanned}
use Rattle.sedck_search.proofs.reaching.visit.Given as goal

-- the edges so far lead to nodes of the set
abbrev pub invariant-loop-edge : goal.invariant-loop-edge
invariant-loop-edge l = record {
  edges : AreScanned l.fn.known.graph.script.now l.fn.node l.yielded l.edge-iterator (λ e. IsFollowed l.fn.known.graph.filter e.kind → IsIn l.reached e.to);
  sets : AreSearchSets l.reached l.frontier;
  targets : AddsTargets l.fn.known.graph.script.now l.fn.known.graph.filter l.fn.node l.initial.reached l.initial.frontier l.reached l.frontier l.initial.first l.first;
}
