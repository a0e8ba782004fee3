use Rattle.sedck_search.proofs.Common.{ap, ◌∙◌, bit_count}
use Rattle.sedck_search.proofs.node_set.NodeSet.counted.Goals as goal

pub returns-clause-value : goal.returns-clause-value
returns-clause-value c = c.count_between.ensures c.self.invariant.3 c.self.invariant.5 ∙ ap bit_count c.self.view_is
