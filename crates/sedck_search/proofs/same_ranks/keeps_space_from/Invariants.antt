use Rattle.sedck_search.proofs.Common.{KeepsOrReads}
use Rattle.sedck_search.proofs.Scans.{AreScanned}
use Rattle.sedck_search.proofs.same_ranks.keeps_space_from.Given as goal

-- each of the edges so far
abbrev pub invariant-loop-edge : goal.invariant-loop-edge
invariant-loop-edge l = AreScanned l.fn.graph.script.now l.fn.node l.yielded l.edge-iterator (λ e. KeepsOrReads e.kind)
