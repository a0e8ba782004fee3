use Rattle.sedck_search.proofs.Common.{◌<◌, sym, subst, Edge, IsClosed, IsIn, IsKeptFor}
use Rattle.sedck_search.proofs.Counts.{kept_reached}
use Rattle.sedck_search.proofs.Paths.{index_below, reaches-trans, reaches_from}
use Rattle.sedck_search.proofs.Scans.{scan_next, scan_more, edge_coming, target_coming}
use Rattle.sedck_search.proofs.sets.start_from_target.Goals as goal

pub of-requires : goal.of-requires
of-requires c =
    let scan = scan_next c.in-Some.ensures.steps c.loop-edge.invariant.edges in
    let below = index_below c.args.known.graph.script.now c.requires.script c.in-Some.edge.to (target_coming c.requires.script scan) in
    subst (λ i. i < 16384) (sym c.index.ensures) below

-- the target reaches the nodes of the set that is kept for it
pub loop-edge-preserved-then-nodes-size : goal.loop-edge-preserved-then-nodes-size
loop-edge-preserved-then-nodes-size c =
    let p = c.args.known.graph.script.now in
    let e : Edge = c.in-Some.edge in
    let scan = scan_next c.in-Some.ensures.steps c.loop-edge.invariant.edges in
    let kept = kept_reached p c.args.known.graph.filter c.args.known.kept.now.sets.items c.args.known.counts.now c.in-Some-of.set.now e.to c.requires.kept c.requires.counts
    (target_coming c.requires.script scan) c.in-Some-of.ensures.1
    (subst (λ i. IsKeptFor c.args.known.kept.now.sets.items c.args.known.counts.now i c.in-Some-of.set.now) c.index.ensures c.in-Some-of.ensures.0) in
    record {
      edges = scan_more scan (λ f h. h) tt;
      is_set = λ _. c.copy_from.ensures.is_set;
      closed = λ _. subst (IsClosed p c.args.known.graph.filter) (sym c.copy_from.ensures.same) kept.0;
      reached = λ _ m x. reaches-trans p c.args.known.graph.filter c.args.node e.to m
          (reaches_from p c.args.known.graph.filter c.args.node e (edge_coming scan)
          (c.follows.ensures.0 c.if-follows.true)) (kept.1 m (subst (λ s. IsIn s m) c.copy_from.ensures.same x));
    }
