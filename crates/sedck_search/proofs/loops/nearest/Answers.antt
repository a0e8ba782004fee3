use Rattle.sedck_search.proofs.Common.{◌≡◌, ◌<◌, ℕ, List, length, get_or, refl, sym, ◌∙◌, subst, arith, true≢false, IsScript, Program, node_index, node_count, Flow, FlowFrom, ListsEdges, Edge, inside}
use Rattle.sedck_search.proofs.Paths.{index_below}
use Rattle.sedck_search.proofs.DistanceLemmas.{distance_at}
use Rattle.sedck_search.proofs.Scans.{scan_none, scan_next, scan_more, scan_end, edge_coming, target_coming, place_in, entry_is, entry_of}
use Rattle.sedck_search.proofs.loops.nearest.Goals.{else-is_of-via-then-is_of+else-distances-index, else-is_of-via-else-is_of}
use Rattle.sedck_search.proofs.loops.nearest.Goals as goal

pub edges_of-edge-items-requires-clause-inside : goal.edges_of-edge-items-requires-clause-inside
edges_of-edge-items-requires-clause-inside c = (inside c.args.graph.script.now c.requires.script.targets c.args.closing c.requires.edge).0

pub loop-edge-init : goal.loop-edge-init
loop-edge-init c =
    let distance = distance_at c.args.graph.script.now c.args.distances.now c.requires.long c.args.closing.to
    (inside c.args.graph.script.now c.requires.script.targets c.args.closing c.requires.edge).1 in
    record {
      is_edge = c.requires.edge;
      is_kind = refl;
      leaves = refl;
      distance = distance.0;
      has_distance = distance.1;
      edges = scan_none c.into_iter-edge-iterator.result
          (subst (λ edges. ListsEdges edges (FlowFrom c.args.graph.script.now c.args.closing.from))
          (sym c.into_iter-edge-iterator.ensures.into_iter_gives) c.edges_of-edge-items.ensures.edges);
    }

pub bounds-distances-index : goal.bounds-distances-index
bounds-distances-index c =
    let p = c.args.graph.script.now in
    let from = c.args.closing.from in
    let scan = scan_next c.in-Some.ensures.steps c.loop-edge.invariant.edges in
    omega (arith, c.index.ensures, place_in p c.args.distances.now c.requires.long c.in-Some.edge.to (target_coming c.requires.script scan))

-- the nearest so far leads to a node of the script
nearest_place : (p : Program) → IsScript p → (distances : List ℕ) → length distances ≡ node_count (length p.commands) → (e : Edge) → Flow p e → (i : ℕ)
    → i ≡ node_index e.to → i < length distances
nearest_place p script distances long e flow i is = omega (arith, is, place_in p distances long e.to (inside p script.targets e flow).1)

pub offset_bounds-distances-index-then-is_of : goal.offset_bounds-distances-index-then-is_of
offset_bounds-distances-index-then-is_of c =
    let small : c.index-then-is_of.result < 16384 = omega (
      arith,
      c.index-then-is_of.ensures,
      index_below c.args.graph.script.now c.requires.script c.loop-edge.nearest.to
          (inside c.args.graph.script.now c.requires.script.targets c.loop-edge.nearest c.loop-edge.invariant.is_edge).1,
    ) in
    omega (arith, small)

pub bounds-distances-index-then-is_of : goal.bounds-distances-index-then-is_of
bounds-distances-index-then-is_of c =
    nearest_place c.args.graph.script.now c.requires.script c.args.distances.now c.requires.long c.loop-edge.nearest c.loop-edge.invariant.is_edge
    c.index-then-is_of.result c.index-then-is_of.ensures

-- this edge is nearer
pub loop-edge-preserved-then-distances-index : goal.loop-edge-preserved-then-distances-index
loop-edge-preserved-then-distances-index c =
    let distances = c.args.distances.now in
    let from = c.args.closing.from in
    let e = c.in-Some.edge in
    let inv = c.loop-edge.invariant in
    let scan = scan_next c.in-Some.ensures.steps inv.edges in
    let flow = edge_coming scan in
    let distance : ℕ = get_or distances c.index.result 0 in
    let below : c.index.result < length distances = omega
    (arith, c.index.ensures, place_in c.args.graph.script.now distances c.requires.long e.to (target_coming c.requires.script scan)) in
    let less : distance < inv.distance = omega (
      arith,
      c.if-distances-index.true,
      entry_of distances c.loop-edge.nearest.to c.index-then-is_of.result inv.distance c.index-then-is_of.ensures inv.has_distance,
    ) in
    record {
      is_edge = flow.0;
      is_kind = c.is_of.ensures.0 c.if-is_of.true;
      leaves = flow.1;
      distance = distance;
      has_distance = entry_is distances e.to c.index.result distance c.index.ensures below refl;
      edges = scan_more scan
          (λ f held kind other has. omega (arith, less, held kind other has))
          (λ kind other has. omega (arith, entry_of distances e.to c.index.result other c.index.ensures has));
    }

-- this one isn't
pub loop-edge-preserved : goal.loop-edge-preserved
loop-edge-preserved c =
    let distances = c.args.distances.now in
    let from = c.args.closing.from in
    let e = c.in-Some.edge in
    let inv = c.loop-edge.invariant in
    let scan = scan_next c.in-Some.ensures.steps inv.edges in
    record {
      is_edge = inv.is_edge;
      is_kind = inv.is_kind;
      leaves = inv.leaves;
      distance = inv.distance;
      has_distance = inv.has_distance;
      edges = scan_more scan (λ f held. held) (λ kind other has. elim c.else-is_of.branch [
        | else-is_of-via-then-is_of+else-distances-index w ↦
            omega (
              arith,
              w.if-distances-index.false,
              entry_of distances e.to w.index.result other w.index.ensures has,
              entry_of distances c.loop-edge.nearest.to w.index-then-is_of.result inv.distance w.index-then-is_of.ensures inv.has_distance,
            )
        | else-is_of-via-else-is_of w ↦ absurd (true≢false (sym (c.is_of.ensures.1 kind) ∙ w.if-is_of.false))
      ]);
    }

pub returns : goal.returns
returns c =
    let inv = c.loop-edge.invariant in
    record {
      is_edge = inv.is_edge;
      is_kind = inv.is_kind;
      leaves = inv.leaves;
      distance = inv.distance;
      has_distance = inv.has_distance;
      nearest = λ f flow kind leaves other has. scan_end c.in-None.ensures.steps.0 inv.edges f (flow, leaves) kind other has;
    }
