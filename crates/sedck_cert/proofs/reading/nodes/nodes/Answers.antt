use Rattle.sedck_cert.proofs.Common.{◌≡◌, ◌⊎◌, inr, suc, ◌+◌, ◌-◌, arith, common_steps, AreWithin, nodes_in, nodes_due, Stops, OutOfMemory, if_err_from, All-push}
use Rattle.sedck_cert.proofs.LineLemmas.{leads_stops}
use Rattle.sedck_cert.proofs.DueLines.{leads_node}
use Rattle.sedck_cert.proofs.reading.nodes.nodes.Goals as goal

pub returns-in_err-node_line-clause-refused : goal.returns-in_err-node_line-clause-refused
returns-in_err-node_line-clause-refused c =
    let first = nodes_due 0 (nodes_in c.args.version c.args.commands) in
    let left = nodes_in c.args.version c.args.commands - (c.loop-node.node + 1) in
    if_err_from (λ fault. (fault ≡ OutOfMemory) ⊎ Stops c.args.version first c.args.lines.now fault) c.from_residual-in_err-node_line.result _
    c.from_residual-in_err-node_line.ensures.1
    (inr (leads_stops (c.loop-node.invariant.0 (suc left) (omega arith)) (c.in_err-node_line.ensures.refused left)))

pub loop-node-preserved : goal.loop-node-preserved
loop-node-preserved c = rw c.in_ok-push.ensures.items (
  λ left all. leads_node c.args.version _ c.loop-node.node left c.loop-node.ranks.items c.in_ok-node_line.field-0
      c.loop-node.invariant.2 (c.loop-node.invariant.0 (suc left) (omega arith)) (c.in_ok-node_line.ensures.read left),
  All-push AreWithin c.loop-node.ranks.items c.in_ok-node_line.field-0 c.loop-node.invariant.1 c.in_ok-node_line.ensures.within,
  grind (arith, common_steps),
)

pub returns-clause-read : goal.returns-clause-read
returns-clause-read c = c.loop-node.invariant.0 0 (omega arith)
