-- The flow graphs by which certificates of version 1 were judged, this project's own: a node is a place and the substitution flag, and doesn't know
-- the last line. Only what is said of such certificates cites it. Which kind a successful substitution has is left open here, since that changed
-- while such certificates were made: by literal parts alone at first (`HasLiteralKind`), and with references later (`HasKind`).
use Rattle.std.specs.Prelude.{◌≡◌, ◌⊎◌, ℕ, suc, ◌+◌, ◌*◌, Bool, true, false, if◌then◌else◌, IsTrue, length, MatchOption, slice_get}
use Rattle.sedck_commands.specs.Program.{Address, Two, Substitution, Verb, Block, Branch, Change, Delete, DeleteFirstLine, Exchange, Get, GetAppend, Next, NextAppend, Quit, Substitute, Test, Command, Program}
use Rattle.sedck_flow.specs.Run.{is_conditional, KeptOrReset}
use Rattle.sedck_flow.specs.declared.graph.Node.{Node}
use Rattle.sedck_flow.specs.declared.graph.Edge.{Edge}
use Rattle.sedck_flow.specs.declared.graph.Kind.{Kind}
use Rattle.sedck_flow.specs.declared.graph.Kind.TheVariants.{Consume, Shorten, Keep, Grow}

-- the place of a command, or of the script's end, with the substitution flag
pub record NodeOne : Type 0 where
  pub at : ℕ
  pub flag : Bool

pub record EdgeOne : Type 0 where
  pub from : NodeOne
  pub to : NodeOne
  pub kind : Kind

-- a node and an edge of the flow graph, without what they say of the last line
abbrev pub plain_node : Node → NodeOne
plain_node n = record { at = n.at; flag = n.flag }

abbrev pub plain_edge : Edge → EdgeOne
plain_edge e = record { from = plain_node e.from; to = plain_node e.to; kind = e.kind }

-- ---- Nodes

-- where a cycle begins
abbrev pub start_one : NodeOne
start_one = record { at = 0; flag = false }

abbrev pub moved_one : NodeOne → ℕ → NodeOne
moved_one n target = record { at = target; flag = n.flag }

abbrev pub next_one : NodeOne → NodeOne
next_one n = moved_one n (suc n.at)

abbrev pub flagged_one : NodeOne → Bool → NodeOne
flagged_one n flag = record { at = n.at; flag = flag }

-- how many nodes are before it, by place and then flag
abbrev pub node_index_one : NodeOne → ℕ
node_index_one n = 2 * n.at + (if n.flag then 1 else 0)

-- ---- Edges

-- the kinds that a successful substitution may have
abbrev pub Kinds : Type 1
Kinds = Substitution → Kind → Type 0

-- the edges of an applied command, by its verb
abbrev pub VerbEdgeOne : Kinds → Address → Verb → NodeOne → Kind → NodeOne → Type 0
VerbEdgeOne kinds a (Branch target) n kind to = (kind ≡ Keep) × (to ≡ moved_one n target)
VerbEdgeOne kinds (Two _ _) (Change text) n kind to = ((kind ≡ Consume) × (to ≡ start_one)) ⊎ ((kind ≡ Keep) × (to ≡ next_one n))
VerbEdgeOne kinds a (Change text) n kind to = (kind ≡ Consume) × (to ≡ start_one)
VerbEdgeOne kinds a Delete n kind to = (kind ≡ Consume) × (to ≡ start_one)
VerbEdgeOne kinds a DeleteFirstLine n kind to =
    ((kind ≡ Consume) × (to ≡ start_one))
    ⊎ ((kind ≡ Shorten) × (flag : Bool) × KeptOrReset n.flag flag × (to ≡ flagged_one start_one flag))
VerbEdgeOne kinds a Exchange n kind to = (kind ≡ Grow) × (to ≡ next_one n)
VerbEdgeOne kinds a Get n kind to = (kind ≡ Grow) × (to ≡ next_one n)
VerbEdgeOne kinds a GetAppend n kind to = (kind ≡ Grow) × (to ≡ next_one n)
VerbEdgeOne kinds a Next n kind to = (kind ≡ Consume) × (flag : Bool) × KeptOrReset n.flag flag × (to ≡ flagged_one (next_one n) flag)
VerbEdgeOne kinds a NextAppend n kind to = (kind ≡ Consume) × (flag : Bool) × KeptOrReset n.flag flag × (to ≡ flagged_one (next_one n) flag)
VerbEdgeOne kinds a Quit n kind to = ⊥
VerbEdgeOne kinds a (Substitute s) n kind to =
    ((kind ≡ Keep) × (to ≡ next_one n))
    ⊎ (kinds s kind × (to ≡ flagged_one (next_one n) true))
VerbEdgeOne kinds a (Test target) n kind to = (kind ≡ Keep) × (to ≡ (if n.flag then flagged_one (moved_one n target) false else next_one n))
VerbEdgeOne kinds a _ n kind to = (kind ≡ Keep) × (to ≡ next_one n)

-- the node after a command that isn't applied
abbrev pub node_past_one : Verb → NodeOne → NodeOne
node_past_one (Block behind) n = moved_one n behind
node_past_one _ n = next_one n

-- a command with an address or `!` may be skipped
abbrev pub CommandEdgeOne : Kinds → Command → NodeOne → Kind → NodeOne → Type 0
CommandEdgeOne kinds c n kind to =
    (IsTrue (is_conditional c) × (kind ≡ Keep) × (to ≡ node_past_one c.verb n))
    ⊎ VerbEdgeOne kinds c.address c.verb n kind to

-- after the last command the next cycle begins by reading
abbrev pub FlowOne : Kinds → Program → EdgeOne → Type 0
FlowOne kinds p e = MatchOption (slice_get p.commands e.from.at)
    ((e.from.at ≡ length p.commands) × (e.kind ≡ Consume) × (e.to ≡ start_one))
    (λ c. CommandEdgeOne kinds c e.from e.kind e.to)
