-- The edges of all nodes in one list, node after node, and where those of each node begin.
use Rattle.std.specs.Prelude.{◌≡◌, ℕ, suc, ◌<◌, ◌≤◌, List, length, slice_index}
use Rattle.std.specs.List.{slice_range}
use Rattle.sedck_commands.specs.Program.{Program}
use Rattle.sedck_flow.specs.Nodes.{node_index, node_count}
use Rattle.sedck_flow.specs.Flow.{FlowFrom, ListsEdges}
use Rattle.sedck_flow.specs.declared.graph.Node.{Node}
use Rattle.sedck_flow.specs.declared.graph.Edge.{Edge}
use Rattle.sedck_search.specs.declared.edge_table.EdgeTable.{EdgeTable}

-- the edges are those of the first nodes, so many
pub record ListsNodes (p : Program) (starts : List ℕ) (edges : List Edge) (count : ℕ) : Type 0 where
  pub long : length starts ≡ suc count
  pub end : slice_index starts count ≡ length edges
  pub rising : (i : ℕ) → i < count → slice_index starts i ≤ slice_index starts (suc i)
  pub within : (i : ℕ) → i ≤ count → slice_index starts i ≤ length edges
  pub each : (n : Node) → node_index n < count
      → ListsEdges (slice_range edges (slice_index starts (node_index n)) (slice_index starts (suc (node_index n)))) (FlowFrom p n)

-- they are those of all nodes
abbrev pub IsTable : Program → EdgeTable → Type 0
IsTable p t = ListsNodes p t.starts.items t.edges.items (node_count (length p.commands))
