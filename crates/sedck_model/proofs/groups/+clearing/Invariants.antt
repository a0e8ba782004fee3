use Rattle.sedck_model.proofs.Common.{◌≡◌, ℕ, None, cond, get_or, drop, map, groups_in_all, trees, is_in, tree}
use Rattle.sedck_model.proofs.groups.+clearing.Given as goal

-- the groups that are still to be cleared would lead to the same
abbrev pub invariant-clear_all-loop-item : goal.invariant-clear_all-loop-item
invariant-clear_all-loop-item l =
    (k : ℕ) →
    cond (is_in k (groups_in_all (trees (map tree (drop l.item-index l.items))))) None (get_or l.groups k None)
    ≡ cond (is_in k (groups_in_all (trees (map tree l.items)))) None (get_or l.initial.groups k None)
