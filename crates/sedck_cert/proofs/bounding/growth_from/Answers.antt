use Rattle.sedck_cert.proofs.Common.{◌++◌, sym, ◌∙◌, ap, subst, rules, FlowFrom, ListsEdges, is_none}
use Rattle.sedck_flow.specs.contracts.graph.Kind.{the_type}
use denote.Enum.Bare.{same_true}
use Rattle.sedck_cert.proofs.BoundingLemmas.{one_grows}
use Rattle.sedck_cert.proofs.bounding.growth_from.Goals as goal

-- this edge may grow the pattern space, and its node has ranks
pub returns-then-eq : goal.returns-then-eq
returns-then-eq c =
    let grows = same_true the_type (search rules) _ _ (sym c.if-eq.ensures) in
    let listed =
    subst (λ coming. ListsEdges (c.loop-edge.yielded ++ coming)
    (FlowFrom c.args.script.now c.args.node)) c.in-Some.ensures.steps c.loop-edge.invariant.listed in
    one_grows c.args.script.now c.args.cert.now c.args.node c.loop-edge.yielded c.next.new.self c.in-Some.edge listed grows
    (λ none. let unranked = ap is_none (c.ranks_of.ensures ∙ none) in cc)
