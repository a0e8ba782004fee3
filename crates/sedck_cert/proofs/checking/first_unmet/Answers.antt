use Rattle.sedck_cert.proofs.Common.{◌≡◌, ◌<◌, length, sym, ap, ◌∙◌, arith, node_index, node_count}
use Rattle.sedck_cert.proofs.CheckingLemmas.{leaves_below, first_of_all}
use Rattle.sedck_cert.proofs.checking.first_unmet.Goals as goal

-- the edges of the nodes so far are met, and this node has one that isn't
pub returns-then-is_some : goal.returns-then-is_some
returns-then-is_some c =
    first_of_all c.args.script.now c.args.cert.now c.nth.result c.first_unmet_from-unmet.result
    (λ e is_edge below. let less : node_index e.from < c.loop-index.index = omega (arith, below, c.nth.ensures) in c.loop-index.invariant e is_edge less)
    c.first_unmet_from-unmet.ensures (sym c.is_some.ensures ∙ c.if-is_some.true)

-- no node is left
pub returns : goal.returns
returns c = λ e is_edge.
    let nodes : length c.args.cert.now.ranks ≡ node_count (length c.args.script.now.commands) = c.ranks-index-end.ensures.certificate.nodes
    ∙ ap node_count c.requires in
    let all : length c.ranks-index-end.result.now ≡ length c.args.cert.now.ranks = ap length c.ranks-index-end.ensures.ranks in
    let below : node_index e.from < c.loop-index.index = omega (arith, leaves_below c.args.script.now e is_edge, nodes, all, c.loop-index-test.false) in
    c.loop-index.invariant e is_edge below
