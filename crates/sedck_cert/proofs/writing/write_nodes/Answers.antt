use Rattle.sedck_cert.proofs.Common.{None, sym, subst, ◌∙◌, Appends}
use Rattle.sedck_cert.proofs.Written.{on_err, begins_at, appends_join}
use Rattle.sedck_cert.proofs.Pieces.{node_lines-at, node_lines-more}
use Rattle.sedck_cert.proofs.writing.write_nodes.Goals as goal

pub returns-in_err-write_node-clause-begun : goal.returns-in_err-write_node-clause-begun
returns-in_err-write_node-clause-begun g c = on_err c.from_residual.result _
    (begins_at _ _ _ _ _ _ _
    (node_lines-at c.args.ranks.now c.loop-node.node None c.loop-node-test.true) c.loop-node.invariant.0 c.in_err-write_node.ensures.begun)

pub loop-node-preserved : goal.loop-node-preserved
loop-node-preserved g c = (
  subst (Appends (g.W.Sink.taken c.args.out.now) (g.W.Sink.taken c.write_node.new.out))
      (sym (node_lines-more c.args.ranks.now c.loop-node.node None c.loop-node-test.true))
      (appends_join _ _ _ _ _ c.loop-node.invariant.0 c.in_ok-write_node.ensures.written),
  c.in_ok-write_node.ensures.failure ∙ c.loop-node.invariant.1,
)
