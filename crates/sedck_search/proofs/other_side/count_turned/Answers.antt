use Rattle.sedck_search.proofs.Common.{◌≡◌, ◌<◌, ◌≤◌, ◌+◌, ◌*◌, ℕ, length, get_or, refl, sym, subst, arith, set, node_index, nth_node, Node, index-nth, inside_below, turned, ArePartlyCounted}
use Rattle.sedck_search.proofs.NodeSets.{count_within}
use Rattle.sedck_search.proofs.Scans.{entry_is}
use Rattle.sedck_search.proofs.Counts.{counted_is, counted_set}
use Rattle.sedck_search.proofs.TurnedSets.{turned_count, turned_place}
use Rattle.sedck_search.proofs.other_side.count_turned.Goals as goal
use Rattle.sedck_search.proofs.other_side.count_turned.Goals.{then-count-ne-UNREACHED+then-count+then-counts-step, else-count-ne-UNREACHED}

pub loop-step-preserved : goal.loop-step-preserved
loop-step-preserved c =
    elim c.if-count-ne-UNREACHED.branch [
      | then-count-ne-UNREACHED+then-count+then-counts-step w ↦
          let p = c.args.graph.script.now in
          let k : ℕ = c.loop-step.step in
          let counts = c.loop-step.counts in
          let partly : ArePartlyCounted p c.args.graph.filter counts = c.loop-step.invariant in
          let n : Node = nth_node (2 * k) in
          let m : Node = turned n in
          let place : node_index m ≡ 2 * k + 1 = turned_place k in
          let below : 2 * k + 1 < length counts = omega (arith, c.loop-step-test.true) in
          let n_inside : n.at ≤ length p.commands = inside_below n (length p.commands) (omega (arith, index-nth (2 * k), below, partly.long)) in
          let m_inside : m.at ≤ length p.commands = n_inside in
          let count : ℕ = get_or counts (2 * k) 0 in
          let positive : 0 < count = omega (arith, w.if-count-ne-UNREACHED.true) in
          let is = counted_is p c.args.graph.filter counts partly n n_inside count (entry_is counts n (2 * k) count (sym (index-nth (2 * k))) (omega (arith, below)) refl)
          positive w.if-count.true in
          let within : count ≤ 16384 = omega (arith, count_within is.members is.reach.is_set, is.counts) in
          let marked = entry_is counts m (2 * k + 1) 65535 (sym place) below w.if-counts-step.true in
          rw w.counts-is
          (subst (λ i. ArePartlyCounted p c.args.graph.filter (set counts i count)) place
          (counted_set p c.args.graph.filter counts partly m m_inside count (turned_count p c.requires.never c.args.graph.filter c.requires.filter n count is) positive within
          marked))
      | else-count-ne-UNREACHED w ↦ rw w.counts-is c.loop-step.invariant
    ]
