-- The state of the depth-first search for components, and what holds of it.
use Rattle.std.specs.Prelude.{◌≡◌, ℕ, ◌<◌, ◌≤◌, true, List, length, Some, slice_get}
use Rattle.sedck_commands.specs.Program.{Program}
use Rattle.sedck_flow.specs.Nodes.{node_index, node_count}
use Rattle.sedck_flow.specs.declared.graph.Node.{Node}
use Rattle.sedck_search.specs.Rows.{bit_count}
use Rattle.sedck_search.specs.Private.NodeSet.{has, IsNodeSet, IsEmpty}
use Rattle.sedck_search.specs.Private.KeptSets.{AreKept}
use Rattle.sedck_search.specs.Private.Reaching.{IsClosed, Reaches}
use Rattle.sedck_search.specs.declared.filter.EdgeFilter.{EdgeFilter}
use Rattle.sedck_search.specs.declared.order.Order.{Order}
use Rattle.sedck_search.specs.declared.sets.Sets.{Sets}

-- each of the numbers is below this one
abbrev pub AreBelow : ℕ → List ℕ → Type 0
AreBelow limit numbers = (i v : ℕ) → slice_get numbers i ≡ Some v → v < limit

-- each number is the one of its place
abbrev pub AreIndices : List ℕ → Type 0
AreIndices numbers = (i v : ℕ) → slice_get numbers i ≡ Some v → v ≡ i

-- there is a number for each node, and those of nodes are below their count
pub record IsOrder (o : Order) : Type 0 where
  pub links_long : length o.links.items ≡ length o.parents.items
  pub positions_long : length o.positions.items ≡ length o.parents.items
  pub stack_long : length o.stack.items ≡ length o.parents.items
  pub parents_below : AreBelow (length o.parents.items) o.parents.items
  pub links_below : AreBelow (length o.parents.items) o.links.items
  pub stack_below : AreBelow (length o.parents.items) o.stack.items
  pub height : o.height ≤ length o.parents.items

-- each node reaches the one that it links to
abbrev pub AreLinks : Program → EdgeFilter → List ℕ → Type 0
AreLinks p filter links = (n m : Node) → slice_get links (node_index n) ≡ Some (node_index m) → Reaches p filter n m

pub record IsOrderOf (p : Program) (filter : EdgeFilter) (o : Order) : Type 0 where
  pub is_order : IsOrder o
  pub long : length o.parents.items ≡ node_count (length p.commands)
  pub links : AreLinks p filter o.links.items

-- no followed edge leads out of the kept sets, nor out of the one that was reached last; the frontier is empty
pub record AreSets (p : Program) (filter : EdgeFilter) (s : Sets) : Type 0 where
  pub kept : AreKept p filter s.kept.sets.items
  pub slots : length s.kept.slots.items ≡ node_count (length p.commands)
  pub is_reached : IsNodeSet s.reached
  pub closed : IsClosed p filter s.reached
  pub is_frontier : IsNodeSet s.frontier
  pub idle : IsEmpty s.frontier

-- the node is in the set, and so is the one that it links to, which counts as many nodes
pub record IsMember (reached counts : List ℕ) (node link : ℕ) : Type 0 where
  pub has_node : has reached node ≡ true
  pub has_link : has reached link ≡ true
  pub count : slice_get counts link ≡ Some (bit_count reached)
