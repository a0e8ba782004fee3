use Rattle.sedck_engines.proofs.Common.{◌≡◌, ◌≤◌, ◌++◌, length, sym, ap, ◌∙◌, arith, decimal, codes, length-map, node_count, line, edge_lines}
use Rattle.sedck_script.specs.View.{command_of}
use Rattle.sedck_engines.proofs.GraphLines.{one_more, all_nodes}
use Rattle.sedck_engines.proofs.report.graph_report.Goals as goal

pub loop-index-preserved : goal.loop-index-preserved
loop-index-preserved c = one_more c.args.script.now c.nth.result c.loop-index.index _ _ _ c.nth.ensures c.loop-index.invariant c.in_ok-add_edges.ensures

pub returns : goal.returns
returns c =
    let count : length c.commands.result.now ≡ length c.args.script.now.commands = sym (length-map c.commands.result.now command_of)
    ∙ ap length c.commands.ensures.commands in
    let end : node_count (length c.args.script.now.commands) ≤ c.loop-index.index = omega (arith, count, c.loop-index-test.false) in
    record {
      edges = c.loop-index.invariant.edges;
      lists = all_nodes c.args.script.now c.loop-index.index _ _ end c.loop-index.invariant;
      is_report = c.loop-index.invariant.added ∙ ap (λ t. t ++ edge_lines c.loop-index.invariant.edges)
          (c.in_ok-add_line.ensures ∙ ap (λ t. t ++ line c.as_bytes.result.now) c.new-report.ensures.items
          ∙ ap line (c.as_bytes.ensures.value ∙ c.in_ok-head.ensures.ok ∙ ap (λ n. codes "commands " ++ decimal n) count));
    }
