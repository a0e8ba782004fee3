use Rattle.sedck_search.proofs.Common.{Closes}
use Rattle.sedck_search.proofs.Scans.{AreScanned}
use Rattle.sedck_search.proofs.loops.first_closing_from.Given as goal

-- none of the edges so far closes a walk
abbrev pub invariant-loop-edge : goal.invariant-loop-edge
invariant-loop-edge l = AreScanned l.fn.graph.script.now l.fn.node l.yielded l.edge-iterator (λ e. ¬ Closes l.fn.graph.script.now l.fn.kind l.counts e)
