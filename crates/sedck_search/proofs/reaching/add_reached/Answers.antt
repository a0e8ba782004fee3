use Rattle.sedck_search.proofs.Common.{◌≡◌, false, sym, ap, ◌∙◌, subst, arith, node_index, HasChanged, AddsTargets, IsIn, true≢false}
use Rattle.sedck_search.specs.Private.NodeSet.{has}
use Rattle.sedck_search.proofs.Paths.{index_below, reaches_inside}
use Rattle.sedck_search.proofs.Frontiers.{removed_was, search_begins, search_goes_on, search_shrinks, search_ends, frontier_empty}
use Rattle.sedck_search.proofs.reaching.add_reached.Goals as goal

pub add_node-first-requires-clause-inside : goal.add_node-first-requires-clause-inside
add_node-first-requires-clause-inside c = index_below c.args.known.graph.script.now c.requires.script c.args.node c.requires.inside

pub add_node-first-requires-clause-sets : goal.add_node-first-requires-clause-sets
add_node-first-requires-clause-sets c = record {
  is_set = c.requires.reached;
  is_frontier = c.requires.frontier;
  among = λ n w. absurd (true≢false (sym w ∙ c.requires.idle (node_index n)));
}

pub loop-index-init : goal.loop-index-init
loop-index-init c =
    search_begins c.args.known.graph.script.now c.args.known.graph.filter c.args.node c.args.reached.now c.add_node-first.new.reached c.args.frontier.now c.add_node-first.new.frontier
    c.index.result c.add_node-first.result
    c.requires.closed c.requires.idle c.add_node-first.ensures.sets c.add_node-first.ensures.node c.add_node-first.ensures.added

-- the node that is visited was in the frontier
pub visit-first-requires-clause-inside : goal.visit-first-requires-clause-inside
visit-first-requires-clause-inside c =
    let waits : IsIn c.loop-index.frontier c.nth.result = ap (has c.loop-index.frontier) c.nth.ensures ∙ c.in-Some.ensures.2 in
    reaches_inside c.args.known.graph.script.now c.args.known.graph.filter c.requires.script.targets c.args.node c.nth.result
    (c.loop-index.invariant.waits c.nth.result waits) c.requires.inside

pub visit-first-requires-clause-sets : goal.visit-first-requires-clause-sets
visit-first-requires-clause-sets c =
    let removed = subst (λ i. HasChanged c.loop-index.frontier c.remove.new.self i false) (sym c.nth.ensures) c.remove.ensures.changed in
    record {
      is_set = c.loop-index.invariant.sets.is_set;
      is_frontier = c.remove.ensures.is_set;
      among = λ k w. c.loop-index.invariant.sets.among k (removed_was c.loop-index.frontier c.remove.new.self c.nth.result removed k w);
    }

pub loop-index-smaller : goal.loop-index-smaller
loop-index-smaller c =
    let is : node_index c.nth.result ≡ c.in-Some.index = c.nth.ensures in
    search_shrinks _ _ _ _ _ _ _ _ _ _ _ c.nth.result c.loop-index.invariant (ap (has c.loop-index.frontier) is ∙ c.in-Some.ensures.2) (λ k least less. c.in-Some.ensures.3 k least (omega (arith, less, is)))
    (subst (λ i. HasChanged c.loop-index.frontier c.remove.new.self i false) (sym is) c.remove.ensures.changed) c.visit-first.ensures.sets
    (subst (λ i. AddsTargets c.args.known.graph.script.now c.args.known.graph.filter c.nth.result c.loop-index.reached c.remove.new.self c.visit-first.new.reached
    c.visit-first.new.frontier i c.visit-first.result) (sym is) c.visit-first.ensures.targets)
    c.visit-first.ensures.added c.remove.ensures.is_set

pub loop-index-preserved : goal.loop-index-preserved
loop-index-preserved c =
    let is : node_index c.nth.result ≡ c.in-Some.index = c.nth.ensures in
    search_goes_on _ _ _ _ _ _ _ _ _ _ _ c.nth.result c.loop-index.invariant (ap (has c.loop-index.frontier) is ∙ c.in-Some.ensures.2) (λ k least less. c.in-Some.ensures.3 k least (omega (arith, less, is)))
    (subst (λ i. HasChanged c.loop-index.frontier c.remove.new.self i false) (sym is) c.remove.ensures.changed) c.visit-first.ensures.sets
    (subst (λ i. AddsTargets c.args.known.graph.script.now c.args.known.graph.filter c.nth.result c.loop-index.reached c.remove.new.self c.visit-first.new.reached
    c.visit-first.new.frontier i c.visit-first.result) (sym is) c.visit-first.ensures.targets)
    c.visit-first.ensures.added

pub remove-requires-clause-present : goal.remove-requires-clause-present
remove-requires-clause-present c = c.in-Some.ensures.2

-- none waits any more
pub returns-clause-closed : goal.returns-clause-closed
returns-clause-closed c = (search_ends _ _ _ _ _ _ _ c.loop-index.invariant c.in_default.ensures).0

pub returns-clause-grown : goal.returns-clause-grown
returns-clause-grown c = (search_ends _ _ _ _ _ _ _ c.loop-index.invariant c.in_default.ensures).1

pub returns-clause-sets : goal.returns-clause-sets
returns-clause-sets c = (c.loop-index.invariant.sets.is_set, c.loop-index.invariant.sets.is_frontier)

pub returns-clause-idle : goal.returns-clause-idle
returns-clause-idle c = frontier_empty _ _ _ _ _ _ _ c.loop-index.invariant c.in_default.ensures
