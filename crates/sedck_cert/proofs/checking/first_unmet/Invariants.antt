use Rattle.sedck_cert.proofs.Common.{◌<◌, node_index, Flow, Edge, MeetsEdge}
use Rattle.sedck_cert.proofs.checking.first_unmet.Given as goal

-- the edges that leave the nodes so far are met
abbrev pub invariant-loop-index : goal.invariant-loop-index
invariant-loop-index l = (e : Edge) → Flow l.script e → node_index e.from < l.index → MeetsEdge l.cert e
