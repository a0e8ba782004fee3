-- The nodes of a script's flow graph, this project's own: their order, and the index of a node in it. A node is the place of a command, or of the
-- script's end, with the substitution flag, and with whether the last line has been read. That order and index agree is the law `nodes_are_numbered`.
use Rattle.std.specs.Prelude.{◌≡◌, ◌⊎◌, ℕ, suc, ◌+◌, ◌*◌, ◌/◌, ◌%◌, ◌<◌, ◌==◌, Bool, true, false, if◌then◌else◌}
use Rattle.sedck_flow.specs.declared.graph.Node.{Node}

-- at the first command with the flag reset, where a line is left to read, or none: a cycle begins here
abbrev pub start : Bool → Node
start last = record { at = 0; flag = false; last = last }

-- at another command, or at the script's end, with all else as it is
abbrev pub moved_to : Node → ℕ → Node
moved_to n target = record { at = target; flag = n.flag; last = n.last }

-- at the next command, with all else as it is
abbrev pub next : Node → Node
next n = moved_to n (suc n.at)

-- with this flag, and all else as it is
abbrev pub with_flag : Node → Bool → Node
with_flag n flag = record { at = n.at; flag = flag; last = n.last }

-- where the last line has been read, or not, with all else as it is
abbrev pub with_last : Node → Bool → Node
with_last n last = record { at = n.at; flag = n.flag; last = last }

-- by place; at one place the nodes with the flag reset come first, and of two with the same flag the one where a line is left
abbrev pub IsBefore : Node → Node → Type 0
IsBefore m n = (m.at < n.at) ⊎ ((m.at ≡ n.at)
    × (((m.flag ≡ false) × (n.flag ≡ true)) ⊎ ((m.flag ≡ n.flag) × (m.last ≡ false) × (n.last ≡ true))))

-- how many nodes are before it
abbrev pub node_index : Node → ℕ
node_index n = 4 * n.at + (if n.flag then 2 else 0) + (if n.last then 1 else 0)

-- the node with this index
abbrev pub nth_node : ℕ → Node
nth_node index = record { at = index / 4; flag = index / 2 % 2 == 1; last = index % 2 == 1 }

-- how many nodes a script with this many commands has: four for each command, and four for its end
abbrev pub node_count : ℕ → ℕ
node_count commands = 4 * (commands + 1)
