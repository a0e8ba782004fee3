use Rattle.sedck_cert.proofs.Common.{◌<◌, node_index, Flow, NeverGrows}
use Rattle.sedck_cert.proofs.bounding.first_growth.Given as goal

-- none of the edges that leave the nodes so far
abbrev pub invariant-loop-index : goal.invariant-loop-index
invariant-loop-index l = NeverGrows l.cert (λ e. Flow l.script e × (node_index e.from < l.index))
