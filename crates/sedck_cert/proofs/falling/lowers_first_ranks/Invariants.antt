use Rattle.sedck_cert.proofs.Common.{◌<◌, node_index, Flow, AllLowerFirst}
use Rattle.sedck_cert.proofs.falling.lowers_first_ranks.Given as goal

-- the edges that leave the nodes so far lower the first rank
abbrev pub invariant-loop-index : goal.invariant-loop-index
invariant-loop-index l = AllLowerFirst l.cert (λ e. Flow l.script e × (node_index e.from < l.index))
