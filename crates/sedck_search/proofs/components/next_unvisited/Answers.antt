use Rattle.sedck_search.proofs.Common.{arith}
use Rattle.sedck_search.proofs.Scans.{scan_next, target_coming, place_in}
use Rattle.sedck_search.proofs.components.next_unvisited.Goals as goal

pub bounds-counts-to : goal.bounds-counts-to
bounds-counts-to c =
    let scan = scan_next c.in-Some.ensures.steps c.loop-edge.invariant in
    omega (arith, c.index-to.ensures, place_in c.args.graph.script.now c.args.counts.now c.requires.counts c.in-Some.edge.to (target_coming c.requires.script scan))
