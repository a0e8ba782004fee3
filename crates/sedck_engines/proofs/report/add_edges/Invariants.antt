use Rattle.sedck_engines.proofs.Common.{◌≡◌, ◌++◌, edge_lines}
use Rattle.sedck_engines.proofs.report.add_edges.Given as goal

-- the report so far, and the edges to come
abbrev pub invariant-loop-edge : goal.invariant-loop-edge
invariant-loop-edge l = l.report.items ++ edge_lines l.edge-iterator ≡ l.initial.report.items ++ edge_lines l.initial.edge-iterator
