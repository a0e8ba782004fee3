use Rattle.sedck_cert.proofs.Common.{FlowFrom}
use Rattle.sedck_cert.proofs.CheckingLemmas.{IsUpTo}
use Rattle.sedck_cert.proofs.checking.first_unmet_from.Given as goal

-- the edges so far are met, and those to come are the rest of the node's
abbrev pub invariant-loop-edge : goal.invariant-loop-edge
invariant-loop-edge l = IsUpTo l.cert (FlowFrom l.script l.fn.node) l.yielded l.edge-iterator
