use Rattle.sedck_search.proofs.Common.{sym, ap, ◌∙◌, arith, Some, node_index, Edge}
use Rattle.sedck_search.proofs.Paths.{reaches-trans, reaches_from}
use Rattle.sedck_search.proofs.Scans.{scan_next, scan_more, edge_coming, target_coming, place_in, entry_is}
use Rattle.sedck_search.proofs.components.lowest_link.Goals as goal

pub bounds-counts-to : goal.bounds-counts-to
bounds-counts-to c =
    let scan = scan_next c.in-Some.ensures.steps c.loop-edge.invariant.edges in
    omega (arith, c.index-to.ensures, place_in c.args.graph.script.now c.args.counts.now c.requires.counts c.in-Some.edge.to (target_coming c.requires.script scan))

pub bounds-positions-link : goal.bounds-positions-link
bounds-positions-link c =
    let e : Edge = c.in-Some.edge in
    let scan = scan_next c.in-Some.ensures.steps c.loop-edge.invariant.edges in
    let place = place_in c.args.graph.script.now c.args.counts.now c.requires.counts e.to (target_coming c.requires.script scan) in
    let link = entry_is c.args.links.now e.to c.index-to.result c.from-link.result c.index-to.ensures
    (omega (arith, c.index-to.ensures, place, c.requires.long)) (sym c.from-link.ensures) in
    omega (arith, c.requires.below (node_index e.to) c.from-link.result link, c.requires.positions)

-- the target reaches the node that it links to
pub loop-edge-preserved-then-positions-link : goal.loop-edge-preserved-then-positions-link
loop-edge-preserved-then-positions-link c =
    let p = c.args.graph.script.now in
    let e : Edge = c.in-Some.edge in
    let scan = scan_next c.in-Some.ensures.steps c.loop-edge.invariant.edges in
    let place = place_in p c.args.counts.now c.requires.counts e.to (target_coming c.requires.script scan) in
    let link = entry_is c.args.links.now e.to c.index-to.result c.from-link.result c.index-to.ensures
    (omega (arith, c.index-to.ensures, place, c.requires.long)) (sym c.from-link.ensures) in
    record {
      edges = scan_more scan (λ f h. h) tt;
      inside = c.requires.below (node_index e.to) c.from-link.result link;
      reached = λ m is. reaches-trans p c.args.graph.filter c.args.node e.to m
          (reaches_from p c.args.graph.filter c.args.node e (edge_coming scan)
          (c.follows.ensures.0 c.if-follows.true)) (c.requires.links e.to m (link ∙ ap Some (sym is)));
    }
