use Rattle.sedck_cert.proofs.Common.{FlowFrom}
use Rattle.sedck_cert.proofs.FallingLemmas.{LowerUpTo}
use Rattle.sedck_cert.proofs.falling.lowers_first_from.Given as goal

-- the edges so far lower the first rank, and those to come are the rest of the node's
abbrev pub invariant-loop-edge : goal.invariant-loop-edge
invariant-loop-edge l = LowerUpTo l.cert (FlowFrom l.script l.fn.node) l.yielded l.edge-iterator
