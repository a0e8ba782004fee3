use Rattle.sedck_search.proofs.Common.{◌≡◌, ◌+◌, [], ◌∷◌, length, sym, ap, ◌∙◌, subst, arith, slice_get, eqb, if◌then◌else◌, length-map, command_of, node_index, node_count, ArePathLengths, ne_eqb}
use Rattle.std.proofs.lemmas.List.{length-append}
use Rattle.sedck_search.proofs.DistanceLemmas.{first_distance, some_distances, entries_push, eqb_same}
use Rattle.sedck_search.proofs.distances.distances_to.Goals.{then-index, else-index}
use Rattle.sedck_search.proofs.distances.distances_to.Goals as goal

-- the distance that is put at the place
entry : (c : goal.In_ok-push) → c.if-index.push ≡ first_distance (node_index c.args.to) c.loop-index.index
entry c = elim c.if-index.branch [
  | then-index w ↦ w.push-is
      ∙ sym (ap (λ b. if b then 0 else 65535) (ap (λ k. eqb k (node_index c.args.to)) (w.if-index.true ∙ c.index.ensures) ∙ eqb_same (node_index c.args.to)))
  | else-index w ↦ w.push-is
      ∙ sym (ap (λ b. if b then 0 else 65535) (ne_eqb c.loop-index.index (node_index c.args.to) (λ is. w.if-index.false (is ∙ sym c.index.ensures))))
]

pub loop-index-preserved : goal.loop-index-preserved
loop-index-preserved c =
    let inv = c.loop-index.invariant in
    let pushed = c.in_ok-push.ensures.items in
    record {
      long = ap length pushed ∙ length-append c.loop-index.distances.items (c.if-index.push ∷ []) ∙ ap (λ k. k + 1) inv.long;
      entries = λ i below. ap (λ l. slice_get l i) pushed
          ∙ entries_push (first_distance (node_index c.args.to)) c.loop-index.distances.items c.loop-index.index c.if-index.push inv.long inv.entries (entry c) i below;
    }

pub settle-requires-clause-some : goal.settle-requires-clause-some
settle-requires-clause-some c =
    let count : length c.commands.result.now ≡ length c.args.graph.script.now.commands = sym (length-map c.commands.result.now command_of)
    ∙ ap length c.commands.ensures.commands in
    let inv = c.loop-index.invariant in
    let end : c.loop-index.index ≡ node_count (length c.args.graph.script.now.commands) =
    omega (arith, count, c.loop-index-test.false, c.loop-index.auto.index-end) in
    subst (ArePathLengths c.args.graph.script.now c.args.graph.filter c.args.to) (sym c.deref_mut.ensures.value)
    (some_distances c.args.graph.script.now c.args.graph.filter c.args.to c.loop-index.distances.items (inv.long ∙ end) c.requires.inside
    (λ i below. inv.entries i (omega (arith, below, inv.long))))
