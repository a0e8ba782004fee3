-- How far it is from each node to one of them over followed edges, in edges.
use Rattle.std.specs.Prelude.{◌≡◌, ℕ, suc, ◌<◌, ◌≤◌, List, length, Some, slice_get}
use Rattle.std.specs.List.{sum_by}
use Rattle.sedck_commands.specs.Program.{Program}
use Rattle.sedck_flow.specs.Nodes.{node_index, node_count}
use Rattle.sedck_flow.specs.declared.graph.Node.{Node}
use Rattle.sedck_flow.specs.declared.graph.Edge.{Edge}
use Rattle.sedck_search.specs.Private.Reaching.{FollowedEdge, IsClosed, IsIn}
use Rattle.sedck_search.specs.declared.filter.EdgeFilter.{EdgeFilter}

-- the node has this distance, or this mark
abbrev pub HasDistance : List ℕ → Node → ℕ → Type 0
HasDistance distances n distance = slice_get distances (node_index n) ≡ Some distance

-- a followed edge leads from the node to one that is at most so far away
pub record HasNeighborWithin (p : Program) (filter : EdgeFilter) (distances : List ℕ) (n : Node) (limit : ℕ) : Type 0 where
  pub edge : Edge
  pub followed : FollowedEdge p filter edge
  pub leaves : edge.from ≡ n
  pub distance : ℕ
  pub has_distance : HasDistance distances edge.to distance
  pub nearer : distance ≤ limit

-- each distance is that of some path to the node; the greatest number is the mark of nodes without one
pub record ArePathLengths (p : Program) (filter : EdgeFilter) (to : Node) (distances : List ℕ) : Type 0 where
  pub long : length distances ≡ node_count (length p.commands)
  pub small : (n : Node) (distance : ℕ) → HasDistance distances n distance → distance ≤ 65535
  pub here : HasDistance distances to 0
  pub only : (n : Node) → HasDistance distances n 0 → n ≡ to
  pub on : (n : Node) (distance : ℕ) → HasDistance distances n (suc distance) → suc distance < 65535 → HasNeighborWithin p filter distances n distance

-- no followed edge from the node makes its distance shorter
abbrev pub IsSettled : Program → EdgeFilter → List ℕ → Node → Type 0
IsSettled p filter distances n = (e : Edge) → FollowedEdge p filter e → e.from ≡ n → (before after : ℕ) → HasDistance distances n before → HasDistance distances e.to after → before ≤ suc after

-- Each distance is that of a shortest path, for the nodes of a set that the node is in and no followed edge leads out of. A closed walk from the node
-- stays in it.
pub record AreDistances (p : Program) (filter : EdgeFilter) (to : Node) (distances : List ℕ) : Type 0 where
  pub some : ArePathLengths p filter to distances
  pub reach : List ℕ
  pub closed : IsClosed p filter reach
  pub here : IsIn reach to
  pub settled : (n : Node) → IsIn reach n → IsSettled p filter distances n

-- the sum of all distances and marks
abbrev pub total : List ℕ → ℕ
total distances = sum_by (λ distance. distance) distances
