use Rattle.sedck_expressions.proofs.Common.{◌≡◌, false, drop, map, trees, tree, is_end_last}
use Rattle.sedck_expressions.proofs.parts.is_end_last.Given as goal

abbrev pub invariant-loop-item : goal.invariant-loop-item
invariant-loop-item l = is_end_last l.last (trees (map tree (drop l.item-index l.items))) ≡ is_end_last false (trees (map tree l.items))
