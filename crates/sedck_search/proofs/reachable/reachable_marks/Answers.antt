use Rattle.sedck_search.proofs.Common.{◌≡◌, ◌<◌, ◌+◌, ℕ, List, [], ◌∷◌, length, length-append, get_or, Bool, true, false, sym, ap, subst, ◌∙◌, inl, inr, arith, Some, slice_get, if◌then◌else◌, get_or_from_slice_get, Program, node_index, EdgeFilter, MarkReachable, ArePartlyCounted}
use Rattle.sedck_search.proofs.Scans.{place_in, entries_push}
use Rattle.sedck_search.proofs.reachable.reachable_marks.Goals.{then-is_reachable, else-is_reachable}
use Rattle.sedck_search.proofs.reachable.reachable_marks.Goals as goal

-- a node that can be reached is still to be counted, and any other has no count
abbrev mark : Bool → ℕ
mark b = if b then 65535 else 0

partly_counted : (p : Program) (flags : List Bool) (marks : List ℕ) → MarkReachable p flags → length marks ≡ length flags
    → ((i : ℕ) → i < length marks → slice_get marks i ≡ Some (mark (get_or flags i false))) → (filter : EdgeFilter) → ArePartlyCounted p filter marks
partly_counted p flags marks given long entries filter = record {
  long = long ∙ given.long;
  each = λ n inside.
      let entry = entries (node_index n) (place_in p marks (long ∙ given.long) n inside) in
      elim (given.each n inside) [
        | inl (reachable, is) ↦ inl (reachable, inr (entry ∙ ap (λ b. Some (mark b)) (get_or_from_slice_get flags (node_index n) true false is)))
        | inr (not, is) ↦ inr (not, entry ∙ ap (λ b. Some (mark b)) (get_or_from_slice_get flags (node_index n) false false is))
      ];
}

pub returns : goal.returns
returns c =
    let inv = c.loop-is_reachable.invariant in
    let flags = c.deref-is_reachable-items.result.now in
    record {
      marks = partly_counted c.args.graph.script.now flags c.loop-is_reachable.marks.items
          (subst (MarkReachable c.args.graph.script.now) (sym c.deref-is_reachable-items.ensures.value) c.in_ok-reachable.ensures)
          (omega (arith, inv.long, c.loop-is_reachable-test.false, c.loop-is_reachable.auto.is_reachable-index-end))
          (λ i below. inv.entries i (omega (arith, below, inv.long)));
    }

-- one mark more
pub loop-is_reachable-preserved : goal.loop-is_reachable-preserved
loop-is_reachable-preserved c =
    let inv = c.loop-is_reachable.invariant in
    let flags = c.deref-is_reachable-items.result.now in
    let marks = c.loop-is_reachable.marks.items in
    let entry : ℕ → ℕ = λ i. mark (get_or flags i false) in
    let is : c.if-is_reachable.push ≡ entry c.loop-is_reachable.is_reachable-index = elim c.if-is_reachable.branch [
      | then-is_reachable w ↦ w.push-is ∙ ap mark (sym w.if-is_reachable.true)
      | else-is_reachable w ↦ w.push-is ∙ ap mark (sym w.if-is_reachable.false)
    ] in
    let items = c.in_ok-push.ensures.items in
    record {
      long = ap length items ∙ length-append marks (c.if-is_reachable.push ∷ []) ∙ ap (λ n. n + 1) inv.long;
      entries = λ i below. ap (λ xs. slice_get xs i) items
          ∙ entries_push marks c.if-is_reachable.push entry (λ k less. inv.entries k (omega (arith, less, inv.long)))
          (is ∙ ap entry (sym inv.long)) i (omega (arith, below, inv.long));
    }
