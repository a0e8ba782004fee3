use Rattle.sedck_cert.proofs.Common.{◌≡◌, ℕ, ◌+◌, length, All, AreWithin, nodes_in, nodes_due, node_texts, Leads}
use Rattle.sedck_cert.proofs.reading.nodes.nodes.Given as goal

-- the nodes so far
abbrev pub invariant-loop-node : goal.invariant-loop-node
invariant-loop-node l =
    ((left : ℕ) → l.node + left ≡ nodes_in l.version l.commands
    → Leads l.version (nodes_due 0 (nodes_in l.version l.commands)) l.initial.lines (node_texts l.version 0 l.ranks.items) l.lines (nodes_due l.node left))
    × All AreWithin l.ranks.items
    × (length l.ranks.items ≡ l.node)
