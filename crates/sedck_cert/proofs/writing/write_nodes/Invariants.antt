use Rattle.sedck_cert.proofs.Common.{◌≡◌, take, Appends, node_texts, joined_lines, Two}
use Rattle.sedck_cert.proofs.writing.write_nodes.Given as goal

-- the lines of the nodes so far were taken
abbrev pub invariant-loop-node : goal.invariant-loop-node
invariant-loop-node g l =
    Appends (g.W.Sink.taken l.initial.out) (g.W.Sink.taken l.out) (joined_lines (node_texts Two 0 (take l.node l.ranks)))
    × (g.W.Sink.has_failed l.out ≡ g.W.Sink.has_failed l.initial.out)
