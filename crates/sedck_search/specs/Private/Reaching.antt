-- Which nodes can be reached over which edges, and how many they are.
use Rattle.std.specs.Prelude.{◌≡◌, ◌≢◌, ◌↔◌, ◌⊎◌, ℕ, ◌<◌, ◌≤◌, true, List, [], ◌∷◌, Some, slice_get, length}
use Rattle.sedck_commands.specs.Program.{Program}
use Rattle.sedck_flow.specs.Nodes.{node_index, node_count}
use Rattle.sedck_flow.specs.Flow.{Flow}
use Rattle.sedck_flow.specs.declared.graph.Node.{Node}
use Rattle.sedck_flow.specs.declared.graph.Edge.{Edge}
use Rattle.sedck_flow.specs.declared.graph.Kind.{Kind}
use Rattle.sedck_flow.specs.declared.graph.Kind.TheVariants.{Consume, Keep}
use Rattle.sedck_search.specs.Obstacle.{IsPath, IsReachable}
use Rattle.sedck_search.specs.Rows.{bit_count}
use Rattle.sedck_search.specs.Private.NodeSet.{has, IsNodeSet}
use Rattle.sedck_search.specs.declared.filter.EdgeFilter.{EdgeFilter}
use Rattle.sedck_search.specs.declared.filter.EdgeFilter.TheVariants.{Every, Unread, Kept}

-- edges of which kinds are followed: of every kind, those on which no line is read, or those on which the pattern space is kept
abbrev pub IsFollowed : EdgeFilter → Kind → Type 0
IsFollowed Every kind = Unit {0}
IsFollowed Unread kind = kind ≢ Consume
IsFollowed Kept kind = kind ≡ Keep

abbrev pub AreFollowed : EdgeFilter → List (Kind × Node) → Type 0
AreFollowed filter [] = Unit {0}
AreFollowed filter (edge ∷ more) = IsFollowed filter edge.0 × AreFollowed filter more

-- some path over such edges leads from one node to the other; each node reaches itself
abbrev pub Reaches : Program → EdgeFilter → Node → Node → Type 0
Reaches p filter from to = (path : List (Kind × Node)) × IsPath p from path to × AreFollowed filter path

-- an edge of the graph that is followed
abbrev pub FollowedEdge : Program → EdgeFilter → Edge → Type 0
FollowedEdge p filter e = Flow p e × IsFollowed filter e.kind

-- a node is in the set
abbrev pub IsIn : List ℕ → Node → Type 0
IsIn members n = has members (node_index n) ≡ true

-- no followed edge leads out of the set
abbrev pub IsClosed : Program → EdgeFilter → List ℕ → Type 0
IsClosed p filter members = (e : Edge) → FollowedEdge p filter e → IsIn members e.from → IsIn members e.to

-- the set has just the nodes that the node reaches
pub record IsReachOf (p : Program) (filter : EdgeFilter) (n : Node) (members : List ℕ) : Type 0 where
  pub is_set : IsNodeSet members
  pub same : (m : Node) → IsIn members m ↔ Reaches p filter n m

-- the node reaches so many nodes, itself among them
pub record IsReachCount (p : Program) (filter : EdgeFilter) (n : Node) (count : ℕ) : Type 0 where
  pub members : List ℕ
  pub reach : IsReachOf p filter n members
  pub counts : bit_count members ≡ count

-- ---- The counts of a script's nodes, in their order

-- the node has the count of what it reaches
pub record HasCount (p : Program) (filter : EdgeFilter) (counts : List ℕ) (n : Node) : Type 0 where
  pub count : ℕ
  pub at : slice_get counts (node_index n) ≡ Some count
  pub positive : 0 < count
  pub within : count ≤ 16384
  pub is_count : IsReachCount p filter n count

-- a node that no path from a start leads to has no count
abbrev pub HasNoCount : Program → List ℕ → Node → Type 0
HasNoCount p counts n = (¬ IsReachable p n) × (slice_get counts (node_index n) ≡ Some 0)

-- a node that is still to be counted has the greatest number as its mark
abbrev pub IsUncounted : List ℕ → Node → Type 0
IsUncounted counts n = slice_get counts (node_index n) ≡ Some 65535

-- each node that can be reached has its count
pub record AreCounted (p : Program) (filter : EdgeFilter) (counts : List ℕ) : Type 0 where
  pub long : length counts ≡ node_count (length p.commands)
  pub each : (n : Node) → n.at ≤ length p.commands → (IsReachable p n × HasCount p filter counts n) ⊎ HasNoCount p counts n

-- each has its count, or is still to be counted
pub record ArePartlyCounted (p : Program) (filter : EdgeFilter) (counts : List ℕ) : Type 0 where
  pub long : length counts ≡ node_count (length p.commands)
  pub each : (n : Node) → n.at ≤ length p.commands → (IsReachable p n × (HasCount p filter counts n ⊎ IsUncounted counts n)) ⊎ HasNoCount p counts n
