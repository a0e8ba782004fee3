use Rattle.sedck_advice.proofs.Common.{◌≡◌, ◌∙◌, ◌+◌, ◌||◌, ◌++◌, ◌∷◌, [], min, map, take, refl, sym, ap, trees, cap, tree, capped_sum, copies, written_out, all_written_out}
use Rattle.std.proofs.Common.{nat_lt}
use Rattle.std.proofs.lemmas.List.{take_more}
use Rattle.sedck_bre.proofs.CappedSums.{capped_times}
use Rattle.sedck_expressions.proofs.ViewLemmas.{tree-Repeat}
use Rattle.sedck_advice.proofs.WeightLemmas.{written_out-push, copies_positive}
use Rattle.sedck_advice.proofs.weights.+items.Goals.{written_out-then-is_inside, written_out-else-is_inside}
use Rattle.sedck_advice.proofs.weights.+items.Goals as goal

pub all_written_out-loop-item-preserved : goal.all_written_out-loop-item-preserved
all_written_out-loop-item-preserved t c =
    let inside = c.args.is_inside in
    let before = take c.loop-item.item-index c.args.items.now in
    let one = take_more c.args.items.now c.loop-item.item-index c.item-item.result c.loop-item-test.true ∙ ap (λ x. before ++ x ∷ []) (sym c.item-item.is) in
    let sum = all_written_out inside (trees (map tree before)) in
    let own = written_out inside (tree c.item-item.result) in
    let whole = ap (λ xs. all_written_out inside (trees (map tree xs))) one ∙ written_out-push inside before c.item-item.result in
    c.min-total.ensures
    ∙ ap (λ n. min n cap) (c.saturating_add.ensures
    ∙ ap (λ n. min n 4294967295) (ap (λ n. n + c.written_out-own.result) c.loop-item.invariant ∙ ap (λ n. min sum cap + n) c.written_out-own.ensures))
    ∙ (capped_sum sum own ∙ ap (λ n. min n cap) (sym whole))

pub written_out-returns-after-is_inside : goal.written_out-returns-after-is_inside
written_out-returns-after-is_inside t c =
    let least = c.in-Repeat.least in
    let most = c.in-Repeat.most in
    let shape = ap tree c.in-Repeat.is ∙ tree-Repeat c.in-Repeat.body least most in
    let body = tree c.in-Repeat.body.value in
    let inside : c.if-is_inside.written_out ≡ (c.args.is_inside || nat_lt 1 (copies least most)) = elim c.if-is_inside.branch [
      | written_out-then-is_inside w ↦ rw (w.written_out-is, w.if-is_inside.true) refl
      | written_out-else-is_inside w ↦ rw (w.written_out-is, w.if-is_inside.false) (ap (nat_lt 1) c.copies-times.ensures)
    ] in
    let own : c.written_out-items.result ≡ min (written_out (c.args.is_inside || nat_lt 1 (copies least most)) body) cap =
    c.written_out-items.ensures ∙ ap (λ b. min (written_out b (tree c.deref-in-Repeat.result.now)) cap) inside
    ∙ ap (λ x. min (written_out (c.args.is_inside || nat_lt 1 (copies least most)) (tree x)) cap) c.deref-in-Repeat.ensures in
    let times = c.from.ensures ∙ c.copies-times.ensures in
    rw (shape, c.min.ensures, c.saturating_mul.ensures, times, own)
    (capped_times (copies least most) (written_out (c.args.is_inside || nat_lt 1 (copies least most)) body) (copies_positive least most))
