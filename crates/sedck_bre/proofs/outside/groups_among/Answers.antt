use Rattle.sedck_bre.proofs.Common.{◌∷◌, ◌+◌, drop, sym, ap, ◌∙◌, ◌||◌, list_any, tree, is_group, names, drop_more, names_or}
use Rattle.std.proofs.Math.Bool.{or_assoc}
use Rattle.sedck_bre.proofs.outside.groups_among.Goals as goal

pub loop-item-preserved : goal.loop-item-preserved
loop-item-preserved c k l =
    let i = c.loop-item.item-index in
    let items = c.args.items.now in
    let x = c.item-item.result in
    let rest = list_any (λ item. is_group k (tree item)) (drop (i + 1) items) in
    let one = drop_more items i x c.loop-item-test.true ∙ ap (λ y. y ∷ drop (i + 1) items) (sym c.item-item.is) in
    ap (λ b. b || rest) (names_or c.loop-item.groups c.group_bit-groups.result k ∙ ap (λ b. names c.loop-item.groups k || b) (c.group_bit-groups.ensures k l))
    ∙ or_assoc (names c.loop-item.groups k) (is_group k (tree x)) rest
    ∙ sym (ap (λ xs. names c.loop-item.groups k || list_any (λ item. is_group k (tree item)) xs) one)
    ∙ c.loop-item.invariant k l
