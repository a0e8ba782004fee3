-- Edges that close a walk, known by the counts of their ends.
use Rattle.std.specs.Prelude.{◌≡◌, ℕ, ◌<◌, ◌≤◌, List, Some, slice_get}
use Rattle.sedck_commands.specs.Program.{Program}
use Rattle.sedck_flow.specs.Nodes.{node_index}
use Rattle.sedck_flow.specs.Flow.{Flow}
use Rattle.sedck_flow.specs.declared.graph.Edge.{Edge}
use Rattle.sedck_flow.specs.declared.graph.Kind.{Kind}
use Rattle.sedck_flow.specs.declared.graph.Kind.TheVariants.{Keep, Grow}
use Rattle.sedck_search.specs.declared.filter.EdgeFilter.{EdgeFilter}
use Rattle.sedck_search.specs.declared.filter.EdgeFilter.TheVariants.{Kept, Unread}
use Rattle.sedck_search.specs.declared.answer.Form.{Form}
use Rattle.sedck_search.specs.declared.answer.Form.TheVariants.{Idle, Growing}

-- the kind of the edge that a sought obstacle begins with
abbrev pub closing_kind : Form → Kind
closing_kind Idle = Keep
closing_kind Growing = Grow

-- the edges over which it goes back
abbrev pub back_filter : Form → EdgeFilter
back_filter Idle = Kept
back_filter Growing = Unread

-- an edge of the kind between two nodes with one count
pub record Closes (p : Program) (kind : Kind) (counts : List ℕ) (e : Edge) : Type 0 where
  pub is_edge : Flow p e
  pub is_kind : e.kind ≡ kind
  pub count : ℕ
  pub positive : 0 < count
  pub before : slice_get counts (node_index e.from) ≡ Some count
  pub after : slice_get counts (node_index e.to) ≡ Some count

-- it leaves the first node that such an edge leaves
pub record IsFirstClosing (p : Program) (kind : Kind) (counts : List ℕ) (e : Edge) : Type 0 where
  pub closes : Closes p kind counts e
  pub first : (f : Edge) → Closes p kind counts f → node_index e.from ≤ node_index f.from
