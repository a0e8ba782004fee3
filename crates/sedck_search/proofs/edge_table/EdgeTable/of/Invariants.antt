use Rattle.sedck_search.proofs.Common.{ListsNodes}
use Rattle.sedck_search.proofs.edge_table.EdgeTable.of.Given as goal

-- the nodes so far
abbrev pub invariant-loop-index : goal.invariant-loop-index
invariant-loop-index l = ListsNodes l.script l.table.starts.items l.table.edges.items l.index
