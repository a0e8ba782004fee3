use Rattle.sedck_search.proofs.Common.{◌<◌, length, sym, ◌∙◌, arith, true≢false}
use Rattle.sedck_search.proofs.Scans.{scan_next, scan_more, scan_end, edge_coming, target_coming, place_in, entry_is, entry_of}
use Rattle.sedck_search.proofs.distances.nearer_edge.Goals.{else-follows-via-then-follows+else-distances-index, else-follows-via-else-follows}
use Rattle.sedck_search.proofs.distances.nearer_edge.Goals as goal

pub bounds-distances-index : goal.bounds-distances-index
bounds-distances-index c =
    let scan = scan_next c.in-Some.ensures.steps c.loop-edge.invariant in
    omega (arith, c.index.ensures, place_in c.args.graph.script.now c.args.distances.now c.requires.long c.in-Some.edge.to (target_coming c.requires.script scan))

pub returns-then-distances-index-clause-followed : goal.returns-then-distances-index-clause-followed
returns-then-distances-index-clause-followed c =
    let scan = scan_next c.in-Some.ensures.steps c.loop-edge.invariant in
    ((edge_coming scan).0, c.follows.ensures.0 c.if-follows.true)

pub returns-then-distances-index-clause-leaves : goal.returns-then-distances-index-clause-leaves
returns-then-distances-index-clause-leaves c =
    let scan = scan_next c.in-Some.ensures.steps c.loop-edge.invariant in
    (edge_coming scan).1

pub returns-then-distances-index-clause-distance : goal.returns-then-distances-index-clause-distance
returns-then-distances-index-clause-distance c =
    let scan = scan_next c.in-Some.ensures.steps c.loop-edge.invariant in
    let below : c.index.result < length c.args.distances.now =
    omega (arith, c.index.ensures, place_in c.args.graph.script.now c.args.distances.now c.requires.long c.in-Some.edge.to (target_coming c.requires.script scan)) in
    entry_is c.args.distances.now c.in-Some.edge.to c.index.result c.args.distance c.index.ensures below c.if-distances-index.true

-- this edge isn't such a one
pub loop-edge-preserved : goal.loop-edge-preserved
loop-edge-preserved c =
    let scan = scan_next c.in-Some.ensures.steps c.loop-edge.invariant in
    scan_more scan (λ f h. h) (λ followed has. elim c.else-follows.branch [
      | else-follows-via-then-follows+else-distances-index w ↦ w.if-distances-index.false
          (entry_of c.args.distances.now c.in-Some.edge.to w.index.result c.args.distance w.index.ensures has)
      | else-follows-via-else-follows w ↦ absurd (true≢false (sym (c.follows.ensures.1 followed) ∙ w.if-follows.false))
    ])

-- there is such an edge
pub unreachable-requires : goal.unreachable-requires
unreachable-requires c =
    let some = c.requires.some in
    scan_end c.in-None.ensures.steps.0 c.loop-edge.invariant some.0
    (some.1.0, some.2) some.1.1 some.3
