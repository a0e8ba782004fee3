use Rattle.sedck_search.proofs.Common.{◌≡◌, ◌<◌, ℕ, length, get_or, refl, sym, ap, ◌∙◌, arith, true≢false, node_index}
use Rattle.sedck_search.proofs.Scans.{scan_next, scan_more, scan_end, edge_coming, target_coming, place_in, entry_is, entry_of}
use Rattle.sedck_search.proofs.loops.first_closing_from.Goals.{else-is_of-via-then-is_of+else-counts-index, else-is_of-via-else-is_of}
use Rattle.sedck_search.proofs.loops.first_closing_from.Goals as goal

pub bounds-counts-index-then-is_of : goal.bounds-counts-index-then-is_of
bounds-counts-index-then-is_of c =
    let scan = scan_next c.in-Some.ensures.steps c.loop-edge.invariant in
    omega (arith, c.index-then-is_of.ensures, place_in c.args.graph.script.now c.args.counts.now c.requires.long c.in-Some.edge.to (target_coming c.requires.script scan))

-- a node without a count closes nothing
pub returns-then-count-eq0 : goal.returns-then-count-eq0
returns-then-count-eq0 c = λ e closes leaves.
    let zero : closes.count ≡ 0 =
    sym (entry_of c.args.counts.now e.from c.index.result closes.count (c.index.ensures ∙ ap node_index (sym leaves)) closes.before)
    ∙ c.if-count-eq0.true in
    omega (arith, closes.positive, zero)

-- both ends have one count
pub returns-then-counts-index : goal.returns-then-counts-index
returns-then-counts-index c =
    let p = c.args.graph.script.now in
    let counts = c.args.counts.now in
    let e = c.in-Some.edge in
    let scan = scan_next c.in-Some.ensures.steps c.loop-edge.invariant in
    let flow = edge_coming scan in
    let count : ℕ = get_or counts c.index.result 0 in
    let from_below : c.index.result < length counts = omega (arith, c.index.ensures, place_in p counts c.requires.long c.args.node c.requires.inside) in
    let to_below : c.index-then-is_of.result < length counts =
    omega (arith, c.index-then-is_of.ensures, place_in p counts c.requires.long e.to (target_coming c.requires.script scan)) in (
      record {
        is_edge = flow.0;
        is_kind = c.is_of.ensures.0 c.if-is_of.true;
        count = count;
        positive = omega (arith, c.if-count-eq0.false);
        before = entry_is counts e.from c.index.result count (c.index.ensures ∙ ap node_index (sym flow.1)) from_below refl;
        after = entry_is counts e.to c.index-then-is_of.result count c.index-then-is_of.ensures to_below c.if-counts-index.true;
      },
      flow.1,
    )

-- this edge doesn't close a walk
pub loop-edge-preserved : goal.loop-edge-preserved
loop-edge-preserved c =
    let counts = c.args.counts.now in
    let e = c.in-Some.edge in
    let scan = scan_next c.in-Some.ensures.steps c.loop-edge.invariant in
    let flow = edge_coming scan in
    scan_more scan (λ f h. h) (λ closes. elim c.else-is_of.branch [
      | else-is_of-via-then-is_of+else-counts-index w ↦ w.if-counts-index.false
          (entry_of counts e.to w.index-then-is_of.result closes.count w.index-then-is_of.ensures closes.after
          ∙ sym (entry_of counts e.from c.index.result closes.count (c.index.ensures ∙ ap node_index (sym flow.1)) closes.before))
      | else-is_of-via-else-is_of w ↦ absurd (true≢false (sym (c.is_of.ensures.1 closes.is_kind) ∙ w.if-is_of.false))
    ])

pub returns : goal.returns
returns c = λ e closes leaves. scan_end c.in-None.ensures.steps.0
    c.loop-edge.invariant e (closes.is_edge, leaves) closes
