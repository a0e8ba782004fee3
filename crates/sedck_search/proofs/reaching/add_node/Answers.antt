use Rattle.sedck_search.proofs.Common.{◌≡◌, Bool, true, false, sym, ap, ◌∙◌, subst, arith, node_index, HasChanged, AddsNode, not}
use Rattle.sedck_search.specs.Private.NodeSet.{has}
use Rattle.sedck_search.proofs.Frontiers.{added_none, added_new, sets_new}
use Rattle.sedck_search.proofs.reaching.add_node.Goals as goal

by_test : (b : Bool) → not b ≡ true → b ≡ false
by_test b e = grind arith

absent : (c : goal.After-min) → has c.args.reached.now c.index-index.result ≡ false
absent c = by_test (has c.args.reached.now c.index-index.result) (sym c.insert.ensures.new ∙ c.if-not-insert.false)

-- the node wasn't in the set, and is put into both
pub returns-clause-node : goal.returns-clause-node
returns-clause-node c =
    let is : c.index-index.result ≡ node_index c.args.node = c.index-index.ensures in
    added_new c.args.node c.args.reached.now c.args.frontier.now c.insert.new.self c.insert-2.new.self c.requires.sets c.insert.ensures.is_set c.insert-2.ensures.is_set
    (ap (has c.args.reached.now) (sym is) ∙ absent c)
    (subst (λ i. HasChanged c.args.reached.now c.insert.new.self i true) is c.insert.ensures.changed)
    (subst (λ i. HasChanged c.args.frontier.now c.insert-2.new.self i true) is c.insert-2.ensures.changed)
    c.args.first c.min.result (omega (arith, c.min.ensures)) (omega (arith, c.min.ensures, is))

pub returns-clause-sets : goal.returns-clause-sets
returns-clause-sets c =
    let is : c.index-index.result ≡ node_index c.args.node = c.index-index.ensures in
    sets_new c.args.node c.args.reached.now c.args.frontier.now c.insert.new.self c.insert-2.new.self c.requires.sets c.insert.ensures.is_set
    c.insert-2.ensures.is_set
    (ap (has c.args.reached.now) (sym is) ∙ absent c)
    (subst (λ i. HasChanged c.args.reached.now c.insert.new.self i true) is c.insert.ensures.changed)
    (subst (λ i. HasChanged c.args.frontier.now c.insert-2.new.self i true) is c.insert-2.ensures.changed)

-- it was there
pub returns-then-not-insert-clause-node : goal.returns-then-not-insert-clause-node
returns-then-not-insert-clause-node c =
    let same = c.insert.ensures.same c.if-not-insert.true in
    subst (λ members. AddsNode c.args.node c.args.reached.now c.args.frontier.now members c.args.frontier.now c.args.first c.args.first) (sym same)
    (added_none c.args.node c.args.reached.now c.args.frontier.now c.args.first)
