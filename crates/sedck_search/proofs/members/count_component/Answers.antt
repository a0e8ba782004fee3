use Rattle.sedck_search.proofs.Common.{◌≡◌, ◌≤◌, length, sym, ap, ◌∙◌, subst₂, arith, Some, slice_get, set, length-set, node_count, node_at, inside_below, bit_count, ArePartlyCounted, IsMember}
use Rattle.sedck_search.proofs.NodeSets.{count_within}
use Rattle.sedck_search.proofs.Scans.{entry_is}
use Rattle.sedck_search.proofs.Links.{member_counted}
use Rattle.sedck_search.proofs.members.count_component.Goals.{then-counts-node+then-is_member, else-counts-node}
use Rattle.sedck_search.proofs.members.count_component.Goals as goal

pub overflow_cast-count : goal.overflow_cast-count
overflow_cast-count c =
    let small : c.len-count.result ≤ 16384 = omega (arith, c.len-count.ensures.value, count_within c.args.sets.now.reached c.len-count.ensures.is_set) in
    omega (arith, small)

-- one member more is counted
counted_one : (c : goal.Joined-counts-node) → ArePartlyCounted c.args.graph.script.now c.args.graph.filter c.if-counts-node.counts
counted_one c = elim c.if-counts-node.branch [
  | then-counts-node+then-is_member w ↦
      let p = c.args.graph.script.now in
      let inv = c.loop-position.invariant in
      let count = node_count (length p.commands) in
      let long = c.requires.order.long in
      let n = node_at c.at-node.result in
      let m = node_at c.linked-link.result in
      let n_inside : n.0.at ≤ length p.commands = inside_below n.0 (length p.commands) (omega (arith, n.1, c.at-node.ensures, long)) in
      let m_inside : m.0.at ≤ length p.commands = inside_below m.0 (length p.commands) (omega (arith, m.1, c.linked-link.ensures.inside, long)) in
      let r = c.requires.order.links n.0 m.0 (ap (slice_get c.args.order.now.links.items) n.1 ∙ c.linked-link.ensures.link ∙ ap Some (sym m.1)) in
      let member = subst₂ (λ i j. IsMember c.loop-position.sets.reached c.loop-position.counts i j) (sym n.1) (sym m.1) w.if-is_member.ensures in
      let marked = entry_is c.loop-position.counts n.0 c.at-node.result 65535 (sym n.1)
      (omega (arith, c.at-node.ensures, long, inv.counted.long)) w.if-counts-node.true in
      let value : bit_count c.loop-position.sets.reached ≡ c.len-count.result = ap bit_count inv.same ∙ sym c.len-count.ensures.value in
      rw w.counts-is (subst₂ (λ i v. ArePartlyCounted p c.args.graph.filter (set c.loop-position.counts i v)) n.1 value
      (member_counted p c.args.graph.filter c.loop-position.counts inv.counted c.loop-position.sets.reached inv.sets.is_reached inv.sets.closed n.0 m.0
      n_inside m_inside r member marked))
  | else-counts-node w ↦ rw w.counts-is c.loop-position.invariant.counted
]

-- the stored sets come and go; the nodes that were reached last stay
pub is_member-requires-clause-count : goal.is_member-requires-clause-count
is_member-requires-clause-count c = c.len-count.ensures.value ∙ ap bit_count (sym c.loop-position.invariant.same)

pub loop-position-preserved : goal.loop-position-preserved
loop-position-preserved c =
    let inv = c.loop-position.invariant in
    record {
      same = inv.same;
      sets = record {
        kept = inv.sets.kept;
        slots = length-set c.loop-position.sets.kept.slots.items c.at-node.result c.store-slot.result ∙ inv.sets.slots;
        is_reached = inv.sets.is_reached;
        closed = inv.sets.closed;
        is_frontier = inv.sets.is_frontier;
        idle = inv.sets.idle;
      };
      counted = counted_one c;
    }
