use Rattle.sedck_search.proofs.Common.{sym, arith}
use Rattle.sedck_search.proofs.NodeBits.{empty_set, empty_nodes, empty_count, none_before, none_from}
use Rattle.sedck_search.proofs.node_set.NodeSet.clear.Goals as goal

pub invariant_of-self : goal.invariant_of-self
invariant_of-self c = (empty_set, sym empty_count, omega arith, none_before 256, omega arith, none_from 0)

pub returns-clause-nodes : goal.returns-clause-nodes
returns-clause-nodes c = empty_nodes

pub returns-clause-is_set : goal.returns-clause-is_set
returns-clause-is_set c = empty_set
