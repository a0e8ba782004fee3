use Rattle.sedck_model.proofs.Common.{ℕ, ◌+◌, None, List, ◌∷◌, cond, get_or, drop, map, sym, ap, ◌∙◌, groups_in, groups_in_all, trees, is_in, tree, Bre}
use Rattle.std.proofs.lemmas.List.{at_drop_more, at_drop_all}
use Rattle.sedck_model.proofs.GroupLemmas.{clear_more}
use Rattle.sedck_model.proofs.groups.+clearing.Goals as goal

abbrev all_in : List Bre → List ℕ
all_in items = groups_in_all (trees (map tree items))

pub clear_all-loop-item-preserved : goal.clear_all-loop-item-preserved
clear_all-loop-item-preserved t c k =
    let items = c.args.items.now in
    let i = c.loop-item.item-index in
    let item = c.item-item.result in
    let old = get_or c.loop-item.groups k None in
    let new = get_or c.clear.new.groups k None in
    let one = at_drop_more (λ (xs : List Bre). cond (is_in k (all_in xs)) None old) items i item c.loop-item-test.true in
    let named = ap (λ (x : Bre). cond (is_in k (all_in (x ∷ drop (i + 1) items))) None old) (sym c.item-item.is) in
    clear_more k (groups_in (tree item)) (all_in (drop (i + 1) items)) old new (c.clear.ensures k) ∙ (sym (one ∙ named) ∙ c.loop-item.invariant k)

pub clear_all-returns : goal.clear_all-returns
clear_all-returns t c k =
    let now = get_or c.loop-item.groups k None in
    sym (at_drop_all (λ (xs : List Bre). cond (is_in k (all_in xs)) None now) c.args.items.now c.loop-item.item-index c.loop-item-test.false)
    ∙ c.loop-item.invariant k
