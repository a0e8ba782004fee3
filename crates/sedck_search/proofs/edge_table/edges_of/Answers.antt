use Rattle.sedck_search.proofs.Common.{length, node_count, index_below}
use Rattle.sedck_search.proofs.EdgeTables.{edges_listed}
use Rattle.sedck_search.proofs.edge_table.edges_of.Goals as goal

pub returns : goal.returns
returns c =
    let p = c.args.graph.script.now in record {
      edges = edges_listed p c.args.graph.table.now.starts.items c.as_slice-starts.result.now c.args.graph.table.now.edges.items c.as_slice-edges.result.now
          (node_count (length p.commands)) c.requires.listed c.args.node (index_below c.args.node (length p.commands) c.requires.inside)
          c.as_slice-starts.ensures.value c.as_slice-edges.ensures.value c.index-index.result c.index-index.ensures;
    }
