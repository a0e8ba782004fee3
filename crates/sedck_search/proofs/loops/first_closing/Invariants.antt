use Rattle.sedck_search.proofs.Common.{◌<◌, node_index, Edge, Closes}
use Rattle.sedck_search.proofs.loops.first_closing.Given as goal

-- no edge from the nodes so far closes a walk
abbrev pub invariant-loop-index : goal.invariant-loop-index
invariant-loop-index l = (e : Edge) → node_index e.from < l.index → ¬ Closes l.fn.graph.script.now l.kind l.counts e
