use Rattle.sedck_search.proofs.Common.{◌≡◌, ℕ, ◌≤◌, Flow, HasDistance}
use Rattle.sedck_search.proofs.Scans.{AreScanned}
use Rattle.sedck_search.proofs.loops.nearest.Given as goal

-- the nearest by the edges so far
abbrev pub invariant-loop-edge : goal.invariant-loop-edge
invariant-loop-edge l = record {
  is_edge : Flow l.fn.graph.script.now l.nearest;
  is_kind : l.nearest.kind ≡ l.fn.closing.kind;
  leaves : l.nearest.from ≡ l.fn.closing.from;
  distance : ℕ;
  has_distance : HasDistance l.distances l.nearest.to distance;
  edges : AreScanned l.fn.graph.script.now l.fn.closing.from l.yielded l.edge-iterator
      (λ e. e.kind ≡ l.fn.closing.kind → (other : ℕ) → HasDistance l.distances e.to other → distance ≤ other);
}
