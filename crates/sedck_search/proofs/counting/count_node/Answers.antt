use Rattle.sedck_search.proofs.Common.{◌≡◌, ◌≤◌, sym, ◌∙◌, subst₂, arith, set, get_or_from_slice_get, same_Some, node_index, bit_count, ArePartlyCounted}
use Rattle.sedck_search.proofs.NodeSets.{counts_node, count_within}
use Rattle.sedck_search.proofs.Paths.{reaches_self}
use Rattle.sedck_search.proofs.Scans.{entry_is, set_same, set_other}
use Rattle.sedck_search.proofs.Counts.{counted_set, reach_count, partly_counts}
use Rattle.sedck_search.proofs.counting.count_node.Goals as goal

pub find_reached-requires-clause-counts : goal.find_reached-requires-clause-counts
find_reached-requires-clause-counts c = partly_counts c.args.graph.script.now c.args.graph.filter c.args.counts.now c.requires.counted

pub overflow_cast-counts : goal.overflow_cast-counts
overflow_cast-counts c =
    let small : c.counted.result ≤ 16384 = omega (arith, c.counted.ensures.value, count_within c.find_reached.new.sets.reached c.counted.ensures.is_set) in
    omega (arith, small)

pub returns-then-counts-index-clause-counted : goal.returns-then-counts-index-clause-counted
returns-then-counts-index-clause-counted c =
    let p = c.args.graph.script.now in
    let s = c.find_reached.new.sets.reached in
    let reach = c.find_reached.ensures.reached in
    let positive = counts_node s reach.is_set (node_index c.nth.result) ((reach.same c.nth.result).1 (reaches_self p c.args.graph.filter c.nth.result)) in
    subst₂ (λ i v. ArePartlyCounted p c.args.graph.filter (set c.args.counts.now i v)) c.nth.ensures (sym c.counted.ensures.value)
    (counted_set p c.args.graph.filter c.args.counts.now c.requires.counted c.nth.result
    (omega (arith, c.nth.ensures, c.requires.inside)) (bit_count s) (reach_count p c.args.graph.filter c.nth.result s reach) positive
    (count_within s reach.is_set) (entry_is c.args.counts.now c.nth.result c.args.index 65535 (sym c.nth.ensures)
    (omega (arith, c.requires.counted.long, c.requires.inside)) c.if-counts-index.true))

pub returns-then-counts-index-clause-done : goal.returns-then-counts-index-clause-done
returns-then-counts-index-clause-done c = λ marked.
    let same : c.counted.result ≡ 65535 = same_Some _ _
    (sym (set_same c.args.counts.now c.args.index c.counted.result (omega (arith, c.requires.counted.long, c.requires.inside))) ∙ marked) in
    absurd (omega (arith, same, c.counted.ensures.value, count_within c.find_reached.new.sets.reached c.counted.ensures.is_set))

pub returns-then-counts-index-clause-others : goal.returns-then-counts-index-clause-others
returns-then-counts-index-clause-others c = λ i other. set_other c.args.counts.now c.args.index i c.counted.result other

pub returns-else-counts-index-clause-done : goal.returns-else-counts-index-clause-done
returns-else-counts-index-clause-done c = λ marked. c.if-counts-index.false (get_or_from_slice_get c.args.counts.now c.args.index 65535 0 marked)
