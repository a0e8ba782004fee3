use Rattle.sedck_expressions.proofs.Common.{◌≡◌, drop, map, trees, tree, empty, parts_after}
use Rattle.sedck_expressions.proofs.parts.+parts.Given as goal

abbrev pub invariant-parts_of_all-loop-item : goal.invariant-parts_of_all-loop-item
invariant-parts_of_all-loop-item l =
    parts_after l.all (trees (map tree (drop l.item-index l.items))) ≡ parts_after empty (trees (map tree l.items))
