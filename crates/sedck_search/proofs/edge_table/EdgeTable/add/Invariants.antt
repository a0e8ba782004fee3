use Rattle.sedck_search.proofs.Common.{◌≡◌, ◌++◌}
use Rattle.sedck_search.proofs.Scans.{AreScanned}
use Rattle.sedck_search.proofs.edge_table.EdgeTable.add.Given as goal

-- the edges so far were added
abbrev pub invariant-loop-edge : goal.invariant-loop-edge
invariant-loop-edge l = record {
  edges : AreScanned l.script l.fn.node l.yielded l.edge-iterator (λ _. Unit {0});
  added : l.self.edges.items ≡ l.initial.self.edges.items ++ l.yielded;
  starts : l.self.starts ≡ l.initial.self.starts;
}
