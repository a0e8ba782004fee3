use Rattle.sedck_cert.proofs.Common.{FlowFrom}
use Rattle.sedck_cert.proofs.BoundingLemmas.{HasNoGrowUpTo}
use Rattle.sedck_cert.proofs.bounding.growth_from.Given as goal

-- none of the edges so far grows, and those to come are the rest of the node's
abbrev pub invariant-loop-edge : goal.invariant-loop-edge
invariant-loop-edge l = HasNoGrowUpTo (FlowFrom l.script l.fn.node) l.yielded l.edge-iterator
