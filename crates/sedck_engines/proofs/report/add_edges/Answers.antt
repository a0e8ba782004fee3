use Rattle.sedck_engines.proofs.Common.{◌++◌, sym, ap, ◌∙◌, append-nil, edge_lines}
use Rattle.sedck_engines.proofs.report.add_edges.Goals as goal

-- no edge is left to come
pub returns : goal.returns
returns c = record {
  edges = c.edges_of-edge-items.result;
  lists = c.edges_of-edge-items.ensures.edges;
  added =
      sym (append-nil c.loop-edge.report.items) ∙ ap (λ l. c.loop-edge.report.items ++ edge_lines l) (sym c.in-None.ensures.steps.0)
      ∙ c.loop-edge.invariant ∙ ap (λ l. c.args.report.now.items ++ edge_lines l) c.into_iter-edge-iterator.ensures.into_iter_gives;
}
