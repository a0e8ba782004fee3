use Rattle.sedck_search.proofs.Common.{arith}
use Rattle.sedck_search.proofs.Links.{linked_order}
use Rattle.sedck_search.proofs.components.finish.Goals as goal

pub count_component-requires-clause-order : goal.count_component-requires-clause-order
count_component-requires-clause-order c =
    linked_order c.args.graph.script.now c.args.graph.filter c.args.order.now c.link.new.self c.requires.order c.nth-node.result c.lowest_link-link.result c.args.index
    c.nth-node.ensures (omega (arith, c.requires.inside, c.requires.counted.long)) c.link.ensures.order c.link.ensures.long c.link.ensures.links
    c.lowest_link-link.ensures.reached

pub returns-else-link-index-clause-order : goal.returns-else-link-index-clause-order
returns-else-link-index-clause-order c =
    linked_order c.args.graph.script.now c.args.graph.filter c.args.order.now c.link.new.self c.requires.order c.nth-node.result c.lowest_link-link.result c.args.index
    c.nth-node.ensures (omega (arith, c.requires.inside, c.requires.counted.long)) c.link.ensures.order c.link.ensures.long c.link.ensures.links
    c.lowest_link-link.ensures.reached
