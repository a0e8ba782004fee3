use Rattle.sedck_search.proofs.Common.{◌≡◌, ◌<◌, ◌≤◌, ℕ, length, suc, get_or, sym, ◌∙◌, arith, inl, inr, refl, true≢false, cases_lt, HasDistance}
use Rattle.sedck_search.proofs.Scans.{scan_next, scan_more, scan_end, edge_coming, target_coming, place_in, entry_is, entry_of}
use Rattle.sedck_search.proofs.distances.relaxed.Goals as goal

pub bounds-distances-index : goal.bounds-distances-index
bounds-distances-index c =
    let scan = scan_next c.in-Some.ensures.steps c.loop-edge.invariant.edges in
    omega (arith, c.index.ensures, place_in c.args.graph.script.now c.args.distances.now c.requires.long c.in-Some.edge.to (target_coming c.requires.script scan))

pub loop-edge-preserved-then-follows : goal.loop-edge-preserved-then-follows
loop-edge-preserved-then-follows c =
    let e = c.in-Some.edge in
    let distances = c.args.distances.now in
    let scan = scan_next c.in-Some.ensures.steps c.loop-edge.invariant.edges in
    let flow = edge_coming scan in
    let below : c.index.result < length distances = omega (arith, c.index.ensures, place_in c.args.graph.script.now distances c.requires.long e.to (target_coming c.requires.script scan)) in
    let distance : ℕ = get_or distances c.index.result 0 in
    let has : HasDistance distances e.to distance = entry_is distances e.to c.index.result distance c.index.ensures below refl in
    let less : c.min-least.result ≤ c.loop-edge.least = omega (arith, c.min-least.ensures) in
    let at : c.min-least.result ≤ suc distance = omega (arith, c.min-least.ensures, c.saturating_add.ensures) in
    record {
      edges = scan_more scan
          (λ f held followed after h. omega (arith, held followed after h, less))
          (λ followed after h. omega (arith, at, entry_of distances e.to c.index.result after c.index.ensures h));
      some = λ small. elim (cases_lt (suc distance) c.loop-edge.least) [
        | inl shorter ↦ (
          distance,
          omega (arith, small, shorter, c.min-least.ensures, c.saturating_add.ensures),
          record { edge = e; followed = (flow.0, c.follows.ensures.0 c.if-follows.true); leaves = flow.1; distance = distance; has_distance = has; nearer = omega arith },
        )
        | inr longer ↦
            let same : c.min-least.result ≡ c.loop-edge.least = omega (arith, small, longer, c.min-least.ensures, c.saturating_add.ensures) in
            let old = c.loop-edge.invariant.some (omega (arith, small, same)) in
            (old.0, same ∙ old.1, old.2)
      ];
    }

pub loop-edge-preserved : goal.loop-edge-preserved
loop-edge-preserved c =
    let scan = scan_next c.in-Some.ensures.steps c.loop-edge.invariant.edges in
    record {
      edges = scan_more scan (λ f held. held)
          (λ followed after h. absurd (true≢false (sym (c.follows.ensures.1 followed) ∙ c.if-follows.false)));
      some = c.loop-edge.invariant.some;
    }

pub returns-clause-least : goal.returns-clause-least
returns-clause-least c = λ e followed leaves after has.
    scan_end c.in-None.ensures.steps.0 c.loop-edge.invariant.edges e (followed.0, leaves) followed.1 after has
