use Rattle.sedck_search.proofs.Common.{◌≡◌, ◌<◌, ◌+◌, ◌-◌, ℕ, suc, [], ◌∷◌, ◌++◌, length, refl, sym, ap, ◌∙◌, subst, subst₂, arith, slice_get, get_or_from_slice_get, Edge, inside, HasDistance, AreDistances, AreFollowed, FollowedEdge, back_filter, IsNearest}
use Rattle.sedck_search.proofs.Paths.{closed_reaches}
use Rattle.sedck_search.proofs.DistanceLemmas.{next_distance}
use Rattle.sedck_search.proofs.Scans.{place_in}
use Rattle.sedck_search.proofs.ShortestLoops.{IsWalking, walking_begins, walking_goes_on, near_small, begin_reached, shortest_loop}
use Rattle.sedck_search.proofs.loops.loop_from.Goals as goal

pub distances_to-requires-clause-inside : goal.distances_to-requires-clause-inside
distances_to-requires-clause-inside c = (inside c.args.graph.script.now c.requires.script.targets c.args.closing c.requires.closing.is_edge).0

pub index-distance-requires : goal.index-distance-requires
index-distance-requires c =
    let p = c.args.graph.script.now in
    let to = (inside p c.requires.script.targets c.nearest-first.result c.nearest-first.ensures.is_edge).1 in
    omega (
      arith,
      c.index.ensures,
      place_in p c.in_ok-distances.distances.items c.in_ok-distances.ensures.some.long c.nearest-first.result.to to,
      ap length c.deref.ensures.value,
      c.deref.ensures.len,
    )

pub loop-step-init : goal.loop-step-init
loop-step-init c =
    let p = c.args.graph.script.now in
    let distances = c.in_ok-distances.distances.items in
    let first : Edge = c.nearest-first.result in
    let near = subst (λ w. IsNearest p w c.args.closing first) c.deref.ensures.value c.nearest-first.ensures in
    let distance : c.index-distance.result.now ≡ near.distance = c.index-distance.ensures
    ∙ get_or_from_slice_get distances c.index.result near.distance c.index-distance.result.now (ap (slice_get distances) c.index.ensures ∙ near.has_distance) in
    let nodes : c.push-2.new.self.items ≡ first.from ∷ first.to ∷ [] = c.in_ok-push-2.ensures.items
    ∙ ap (λ l. l ++ first.to ∷ []) (c.in_ok-push.ensures.items ∙ ap (λ l. l ++ first.from ∷ []) c.new-nodes.ensures.items) in
    let kinds : c.push-3.new.self.items ≡ first.kind ∷ [] = c.in_ok-push-3.ensures.items ∙ ap (λ l. l ++ first.kind ∷ []) c.new-kinds.ensures.items in
    record {
      first = first;
      near = near;
      distance = distance;
      walking = subst₂ (λ n k. IsWalking p c.back_filter-filter.result distances first n k first.to 0 (c.index-distance.result.now - 0)) (sym nodes) (sym kinds)
          (walking_begins p c.requires.script c.back_filter-filter.result distances first near.is_edge (c.index-distance.result.now - 0)
          (subst (HasDistance distances first.to) (let e : near.distance ≡ c.index-distance.result.now - 0 = omega (arith, distance) in e) near.has_distance));
    }

pub nearer_edge-edge-requires-clause-inside : goal.nearer_edge-edge-requires-clause-inside
nearer_edge-edge-requires-clause-inside c = c.loop-step.invariant.walking.inside

-- the distance is left by one edge more
pub nearer_edge-edge-requires-clause-some : goal.nearer_edge-edge-requires-clause-some
nearer_edge-edge-requires-clause-some c =
    let p = c.args.graph.script.now in
    let distances = c.in_ok-distances.distances.items in
    let inv = c.loop-step.invariant in
    let left : ℕ = c.index-distance.result.now - 1 - c.loop-step.step in
    let same : c.index-distance.result.now - c.loop-step.step ≡ suc left = omega (arith, c.loop-step-test.true) in
    let are_distances = subst (λ a. AreDistances p a c.args.closing.from distances) c.back_filter-filter.ensures c.in_ok-distances.ensures in
    let small : suc left < 65535 =
    omega (arith, near_small p c.requires.script c.args.form c.args.closing inv.first distances are_distances c.requires.closing inv.near, inv.distance) in
    let near = inv.near in
    let begun = begin_reached p c.args.form c.args.closing.from distances are_distances inv.first near.is_edge (near.is_kind ∙ c.requires.closing.is_kind) near.leaves in
    let reached = closed_reaches p (back_filter c.args.form) are_distances.reach are_distances.closed inv.walking.walked inv.first.to c.loop-step.at
    inv.walking.path (subst (λ a. AreFollowed a inv.walking.walked) c.back_filter-filter.ensures inv.walking.followed) begun in
    let next = subst (λ a. (e : Edge) × FollowedEdge p a e × (e.from ≡ c.loop-step.at) × HasDistance distances e.to left) (sym c.back_filter-filter.ensures)
    (next_distance p c.requires.script (back_filter c.args.form) c.args.closing.from distances are_distances c.loop-step.at left reached
    (subst (HasDistance distances c.loop-step.at) same inv.walking.has_distance) small) in
    (next.0, next.1, next.2, subst (λ w. HasDistance w next.0.to left) (sym c.deref-in-loop-step.ensures.value) next.3)

pub loop-step-preserved : goal.loop-step-preserved
loop-step-preserved c =
    let p = c.args.graph.script.now in
    let distances = c.in_ok-distances.distances.items in
    let inv = c.loop-step.invariant in
    let e : Edge = c.nearer_edge-edge.result in
    let left : ℕ = c.index-distance.result.now - 1 - c.loop-step.step in
    let same : left ≡ c.index-distance.result.now - (c.loop-step.step + 1) = omega (arith, c.loop-step-test.true) in
    let has = subst (HasDistance distances e.to) same (subst (λ w. HasDistance w e.to left) c.deref-in-loop-step.ensures.value c.nearer_edge-edge.ensures.distance) in
    record {
      first = inv.first;
      near = inv.near;
      distance = inv.distance;
      walking = subst₂ (λ n k. IsWalking p c.back_filter-filter.result distances inv.first n k e.to (c.loop-step.step + 1)
          (c.index-distance.result.now - (c.loop-step.step + 1))) (sym c.in_ok-push-4.ensures.items) (sym c.in_ok-push-5.ensures.items)
          (walking_goes_on p c.requires.script c.back_filter-filter.result distances inv.first c.loop-step.nodes.items c.loop-step.kinds.items c.loop-step.at
          c.loop-step.step (c.index-distance.result.now - c.loop-step.step)
          (c.index-distance.result.now - (c.loop-step.step + 1)) e inv.walking c.nearer_edge-edge.ensures.followed c.nearer_edge-edge.ensures.leaves has);
    }

-- the distance is scan
pub returns : goal.returns
returns c =
    let p = c.args.graph.script.now in
    let distances = c.in_ok-distances.distances.items in
    let inv = c.loop-step.invariant in
    let none : c.index-distance.result.now - c.loop-step.step ≡ 0 = omega (arith, c.loop-step-test.false) in
    let done : c.loop-step.step ≡ inv.near.distance = omega (arith, c.loop-step-test.false, c.loop-step.auto.step-end, inv.distance) in
    let walking =
    subst₂ (λ a l. IsWalking p a distances inv.first c.loop-step.nodes.items c.loop-step.kinds.items c.loop-step.at c.loop-step.step l)
    c.back_filter-filter.ensures none inv.walking in
    shortest_loop p c.requires.script c.args.form c.args.closing inv.first distances c.loop-step.nodes.items c.loop-step.kinds.items c.loop-step.at c.loop-step.step
    (record { nodes = c.loop-step.nodes; kinds = c.loop-step.kinds; form = c.args.form })
    (subst (λ a. AreDistances p a c.args.closing.from distances) c.back_filter-filter.ensures c.in_ok-distances.ensures) c.requires.closing inv.near walking done refl refl refl
