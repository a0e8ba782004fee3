use Rattle.sedck_bre.proofs.Common.{◌≡◌, min, map, take, trees, cap, tree, sequence, no_bounds, Holds, after, outside}
use Rattle.sedck_bre.proofs.outside.least_outside_of.Given as goal

abbrev pub invariant-loop-item : goal.invariant-loop-item
invariant-loop-item l =
    (l.total ≡ min (outside l.groups no_bounds (trees (map tree (take l.item-index l.items)))) cap)
    × Holds l.known (after no_bounds (sequence (take l.item-index l.items)))
