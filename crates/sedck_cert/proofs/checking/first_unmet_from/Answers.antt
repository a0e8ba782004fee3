use Rattle.sedck_cert.proofs.Common.{sym, ◌∙◌, ◌++◌, subst, ListsEdges, FlowFrom}
use Rattle.sedck_cert.proofs.CheckingLemmas.{first_found}
use Rattle.sedck_cert.proofs.checking.first_unmet_from.Goals as goal

-- the edges so far are met, and this one isn't
pub returns-then-is_some : goal.returns-then-is_some
returns-then-is_some c =
    let upto = c.loop-edge.invariant in
    first_found c.args.cert.now (FlowFrom c.args.script.now c.args.node) c.loop-edge.yielded c.next.new.self c.in-Some.edge c.reason_unmet-unmet.result
    (subst (λ coming. ListsEdges (c.loop-edge.yielded ++ coming) (FlowFrom c.args.script.now c.args.node)) c.in-Some.ensures.steps upto.listed) upto.met
    c.reason_unmet-unmet.ensures (sym c.is_some.ensures ∙ c.if-is_some.true)
