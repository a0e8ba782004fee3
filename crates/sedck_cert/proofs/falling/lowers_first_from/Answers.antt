use Rattle.sedck_cert.proofs.Common.{◌++◌, refl, subst, FlowFrom, ListsEdges, LowersFirst}
use Rattle.sedck_cert.proofs.FallingLemmas.{one_stays, one_more, all_done}
use Rattle.sedck_cert.proofs.falling.lowers_first_from.Goals as goal

-- this edge is one that doesn't lower the first rank
pub returns-then-not-lowers_first : goal.returns-then-not-lowers_first
returns-then-not-lowers_first c =
    let listed =
    subst (λ coming. ListsEdges (c.loop-edge.yielded ++ coming)
    (FlowFrom c.args.script.now c.args.node)) c.in-Some.ensures.steps c.loop-edge.invariant.listed in
    let stays : ¬ LowersFirst c.args.cert.now c.in-Some.edge = λ lower. let yes = c.lowers_first.ensures.1 lower in let no = c.if-not-lowers_first.true in cc in (
      λ never. cc,
      λ all. absurd (one_stays c.args.cert.now (FlowFrom c.args.script.now c.args.node) c.loop-edge.yielded c.next.new.self c.in-Some.edge listed stays all),
    )

-- one edge more does
pub loop-edge-preserved : goal.loop-edge-preserved
loop-edge-preserved c =
    let listed =
    subst (λ coming. ListsEdges (c.loop-edge.yielded ++ coming)
    (FlowFrom c.args.script.now c.args.node)) c.in-Some.ensures.steps c.loop-edge.invariant.listed in
    one_more c.args.cert.now (FlowFrom c.args.script.now c.args.node) c.loop-edge.yielded c.next.new.self c.in-Some.edge listed c.loop-edge.invariant.lower
    (c.lowers_first.ensures.0 (let yes = c.if-not-lowers_first.false in cc))

-- all edges do
pub returns : goal.returns
returns c =
    let all = all_done c.args.cert.now (FlowFrom c.args.script.now c.args.node) c.loop-edge.yielded c.loop-edge.edge-iterator c.loop-edge.invariant
    c.in-None.ensures.steps.0 in
    (λ _. all, λ _. refl)
