-- Nodes on the other side of the last line, in scripts that ask nowhere for it.
use Rattle.std.specs.Prelude.{◌≡◌, ℕ, Some, not, slice_get}
use Rattle.sedck_commands.specs.Program.{Last, Address, One, Command, Program}
use Rattle.sedck_flow.specs.Nodes.{with_last}
use Rattle.sedck_flow.specs.declared.graph.Node.{Node}
use Rattle.sedck_flow.specs.declared.graph.Edge.{Edge}

-- the same place and flag, on the last line in place of before it, or before it in place of on it
abbrev pub turned : Node → Node
turned n = with_last n (not n.last)

abbrev pub turned_edge : Edge → Edge
turned_edge e = record { from = turned e.from; to = turned e.to; kind = e.kind }

-- the address is a single `$`
abbrev pub IsLastAlone : Address → Type 0
IsLastAlone (One Last) = Unit {0}
IsLastAlone _ = ⊥

-- no command is selected by a single `$`
abbrev pub AsksNotForLast : Program → Type 0
AsksNotForLast p = (at : ℕ) (c : Command) → slice_get p.commands at ≡ Some c → ¬ IsLastAlone c.address
