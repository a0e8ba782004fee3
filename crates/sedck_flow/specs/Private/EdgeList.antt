-- Where the edges that leave one node lead, put in order one by one: each as its node and its kind.
use Rattle.std.specs.Prelude.{◌≡◌, ◌⊎◌, ◌↔◌, ℕ, ◌+◌, ◌*◌, ◌<◌, List, [], ◌∷◌, Contains}
use Rattle.sedck_flow.specs.Flow.{kind_index, ReadsLine}
use Rattle.sedck_flow.specs.Nodes.{node_index, with_last}
use Rattle.sedck_flow.specs.declared.graph.Node.{Node}
use Rattle.sedck_flow.specs.declared.graph.Edge.{Edge}
use Rattle.sedck_flow.specs.declared.graph.Kind.{Kind}

-- its number in the order of all targets
abbrev pub number : Node × Kind → ℕ
number target = 4 * node_index target.0 + kind_index target.1

-- the edge to it from the node
abbrev pub edge_to : Node → Node × Kind → Edge
edge_to from target = record { from = from; to = target.0; kind = target.1 }

-- each is before the next
abbrev pub AreRising : List (Node × Kind) → Type 0
AreRising [] = Unit {0}
AreRising (target ∷ []) = Unit {0}
AreRising (target ∷ next ∷ targets) = (number target < number next) × AreRising (next ∷ targets)

-- the list has the new ones and those that it had
pub record Adds (IsNew : Kind → Node → Type 0) (before after : List (Node × Kind)) : Type 0 where
  pub in_order : AreRising before → AreRising after
  pub same : (kind : Kind) (to : Node) → Contains after (to, kind) ↔ (IsNew kind to ⊎ Contains before (to, kind))

-- the edge to the target
abbrev pub IsTarget : Node × Kind → Kind → Node → Type 0
IsTarget target kind to = (kind ≡ target.1) × (to ≡ target.0)

-- the edge of this kind to this node
abbrev pub AddsEdge : Kind → Node → List (Node × Kind) → List (Node × Kind) → Type 0
AddsEdge kind to = Adds (IsTarget (to, kind))

-- the edges on which a line is read from the one node to the other
abbrev pub AddsLine : Node → Node → List (Node × Kind) → List (Node × Kind) → Type 0
AddsLine from to = Adds (ReadsLine from (with_last to))
