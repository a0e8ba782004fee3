-- How a set of reached nodes grows while the nodes of its frontier are visited.
use Rattle.std.specs.Prelude.{◌≡◌, ◌⊎◌, ℕ, ◌+◌, ◌*◌, ◌≤◌, List}
use Rattle.sedck_commands.specs.Program.{Program}
use Rattle.sedck_flow.specs.Nodes.{node_index}
use Rattle.sedck_flow.specs.declared.graph.Edge.{Edge}
use Rattle.sedck_flow.specs.declared.graph.Node.{Node}
use Rattle.sedck_search.specs.Rows.{bit_count}
use Rattle.sedck_search.specs.Private.NodeSet.{IsNodeSet, IsUnion}
use Rattle.sedck_search.specs.Private.KeptSets.{IsKeptFor}
use Rattle.sedck_search.specs.Private.Reaching.{IsIn, Reaches, FollowedEdge}
use Rattle.sedck_search.specs.declared.filter.EdgeFilter.{EdgeFilter}

-- a set of reached nodes, and those of them whose edges are still to be followed
pub record AreSearchSets (members frontier : List ℕ) : Type 0 where
  pub is_set : IsNodeSet members
  pub is_frontier : IsNodeSet frontier
  pub among : (n : Node) → IsIn frontier n → IsIn members n

-- The sets before and after a node was added to both, unless it was there. `first` isn't after it.
pub record AddsNode (node : Node) (members frontier members' frontier' : List ℕ) (first first' : ℕ) : Type 0 where
  pub kept : (n : Node) → IsIn members n → IsIn members' n
  pub waits_on : (n : Node) → IsIn frontier n → IsIn frontier' n
  pub new : (n : Node) → IsIn members' n → IsIn members n ⊎ IsIn frontier' n
  pub waits : (n : Node) → IsIn frontier' n → IsIn frontier n ⊎ ((n ≡ node) × IsIn members' n × (first' ≤ node_index n))
  pub earlier : first' ≤ first
  pub room : bit_count frontier' + 2 * bit_count members ≤ bit_count frontier + 2 * bit_count members'

-- the sets before and after the set that is kept for a node was added
pub record AddsKept (sets : List (List ℕ)) (counts : List ℕ) (node : Node) (members frontier members' frontier' : List ℕ) (first first' : ℕ) : Type 0 where
  pub set : List ℕ
  pub is_set : IsNodeSet set
  pub is_kept : IsKeptFor sets counts (node_index node) set
  pub union : IsUnion members set members'
  pub same : frontier' ≡ frontier
  pub same_first : first' ≡ first

abbrev pub AddsTarget : List (List ℕ) → List ℕ → Node → List ℕ → List ℕ → List ℕ → List ℕ → ℕ → ℕ → Type 0
AddsTarget sets counts node members frontier members' frontier' first first' =
    AddsNode node members frontier members' frontier' first first' ⊎ AddsKept sets counts node members frontier members' frontier' first first'

-- all followed edges of the node lead into the set
abbrev pub LeadsInto : Program → EdgeFilter → List ℕ → Node → Type 0
LeadsInto p filter members n = (e : Edge) → FollowedEdge p filter e → e.from ≡ n → IsIn members e.to

-- The sets before and after targets of a node were added. Each new node is one of the frontier, or all its edges lead into the set;
-- `first` isn't after any new node of the frontier.
pub record AddsTargets (p : Program) (filter : EdgeFilter) (from : Node) (members frontier members' frontier' : List ℕ) (first first' : ℕ) : Type 0 where
  pub kept : (n : Node) → IsIn members n → IsIn members' n
  pub waits_on : (n : Node) → IsIn frontier n → IsIn frontier' n
  pub new : (n : Node) → IsIn members' n → IsIn members n ⊎ (Reaches p filter from n × (IsIn frontier' n ⊎ LeadsInto p filter members' n))
  pub waits : (n : Node) → IsIn frontier' n → IsIn frontier n ⊎ (Reaches p filter from n × (first' ≤ node_index n))
  pub earlier : first' ≤ first
  pub room : bit_count frontier' + 2 * bit_count members ≤ bit_count frontier + 2 * bit_count members'

-- the set has grown by what the node reaches
pub record AddsReached (p : Program) (filter : EdgeFilter) (n : Node) (before after : List ℕ) : Type 0 where
  pub kept : (m : Node) → IsIn before m → IsIn after m
  pub node : IsIn after n
  pub reached : (m : Node) → IsIn after m → IsIn before m ⊎ Reaches p filter n m
