use Rattle.sedck_bre.proofs.Common.{◌≡◌, min, map, ◌+◌, ◌++◌, ◌∷◌, [], take, sym, ap, ◌∙◌, arith, take_more, trees, cap, tree, sequence, no_bounds, after, own, outside}
use Rattle.sedck_bre.proofs.CappedSums.{outside-push, after-push, own-named, own-other}
use Rattle.sedck_bre.proofs.outside.least_outside_of.Goals.{then-not-is_named, else-not-is_named}
use Rattle.sedck_bre.proofs.outside.least_outside_of.Goals as goal

pub loop-item-preserved : goal.loop-item-preserved
loop-item-preserved c =
    let before = take c.loop-item.item-index c.args.items.now in
    let one = take_more c.args.items.now c.loop-item.item-index c.item-item.result c.loop-item-test.true ∙ ap (λ x. before ++ x ∷ []) (sym c.item-item.is) in
    let known = c.loop-item.invariant in
    let behind = after no_bounds (sequence before) in
    let t = tree c.item-item.result in
    let n = c.least_of-n.ensures.value behind known.1 in
    let all = outside c.args.groups no_bounds (trees (map tree before)) in
    let total : c.if-not-is_named.total ≡ min (all + own c.args.groups behind t) cap = elim c.if-not-is_named.branch [
      | then-not-is_named w ↦
          let mine = own-other c.args.groups behind t (sym c.is_named.ensures ∙ w.if-not-is_named.true) in
          omega (arith, mine, n, known.0, w.total-is, w.saturating_add.ensures, w.min-total.ensures)
      | else-not-is_named w ↦ omega (arith, own-named c.args.groups behind t (sym c.is_named.ensures ∙ w.if-not-is_named.false), known.0, w.total-is)
    ] in
    rw (one, outside-push c.args.groups no_bounds before c.item-item.result, after-push no_bounds before c.item-item.result)
    (total, c.least_of-n.ensures.known behind known.1)
