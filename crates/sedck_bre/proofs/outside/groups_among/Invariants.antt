use Rattle.sedck_bre.proofs.Common.{◌≡◌, ℕ, ◌<◌, drop, list_any, tree, is_group, names}
use Rattle.std.proofs.Common.{◌||◌}
use Rattle.sedck_bre.proofs.outside.groups_among.Given as goal

-- each group is named, or among the items that are left
abbrev pub invariant-loop-item : goal.invariant-loop-item
invariant-loop-item l =
    (k : ℕ) → k < 16
    → (names l.groups k || list_any (λ item. is_group k (tree item)) (drop l.item-index l.items)) ≡ list_any (λ item. is_group k (tree item)) l.items
