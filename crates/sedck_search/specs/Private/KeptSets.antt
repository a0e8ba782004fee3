-- Sets of reached nodes that are kept, and what it means that one is kept for a node.
use Rattle.std.specs.Prelude.{◌≡◌, ◌⊎◌, ℕ, ◌<◌, ◌≤◌, true, List, length, Some, slice_get, set, All, Contains}
use Rattle.sedck_commands.specs.Program.{Program}
use Rattle.sedck_flow.specs.Nodes.{node_index}
use Rattle.sedck_flow.specs.declared.graph.Node.{Node}
use Rattle.sedck_search.specs.Rows.{bit_count}
use Rattle.sedck_search.specs.Private.NodeSet.{has}
use Rattle.sedck_search.specs.Private.Reaching.{IsClosed, IsReachCount}
use Rattle.sedck_search.specs.declared.filter.EdgeFilter.{EdgeFilter}

-- the set is one of these, has the node, and has as many nodes as the node counts
pub record IsKeptFor (sets : List (List ℕ)) (counts : List ℕ) (node : ℕ) (set : List ℕ) : Type 0 where
  pub member : Contains sets set
  pub has_node : has set node ≡ true
  pub count : slice_get counts node ≡ Some (bit_count set)

-- no followed edge leads out of any of the sets
abbrev pub AreKept : Program → EdgeFilter → List (List ℕ) → Type 0
AreKept p filter sets = All (λ set. IsClosed p filter set) sets

-- each number that is no mark is the count of its node
abbrev pub AreCounts : Program → EdgeFilter → List ℕ → Type 0
AreCounts p filter counts = (n : Node) → n.at ≤ length p.commands → (count : ℕ) → slice_get counts (node_index n) ≡ Some count
    → 0 < count → count < 65535 → IsReachCount p filter n count

-- the set took the place of one of the kept ones, or of none
abbrev pub StoresSet : List (List ℕ) → List ℕ → List (List ℕ) → Type 0
StoresSet before stored after = (after ≡ before) ⊎ ((slot : ℕ) × (after ≡ set before slot stored))
