use Rattle.sedck_search.proofs.Common.{◌≡◌, ℕ, suc, ◌<◌, ◌≤◌, IsFollowed, HasDistance, HasNeighborWithin}
use Rattle.sedck_search.proofs.Scans.{AreScanned}
use Rattle.sedck_search.proofs.distances.relaxed.Given as goal

-- the least distance by the edges so far
abbrev pub invariant-loop-edge : goal.invariant-loop-edge
invariant-loop-edge l = record {
  edges : AreScanned l.fn.graph.script.now l.fn.node l.yielded l.edge-iterator
      (λ e. IsFollowed l.fn.graph.filter e.kind → (after : ℕ) → HasDistance l.distances e.to after → l.least ≤ suc after);
  some : l.least < 65535 → (distance : ℕ) × (l.least ≡ suc distance) × HasNeighborWithin l.fn.graph.script.now l.fn.graph.filter l.distances l.fn.node distance;
}
