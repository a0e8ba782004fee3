use Rattle.sedck_search.proofs.Common.{◌<◌, node_index, Flow, Edge, KeepsOrReads}
use Rattle.sedck_search.proofs.same_ranks.keeps_space.Given as goal

-- each edge from the nodes so far
abbrev pub invariant-loop-index : goal.invariant-loop-index
invariant-loop-index l = (e : Edge) → node_index e.from < l.index → Flow l.fn.graph.script.now e → KeepsOrReads e.kind
