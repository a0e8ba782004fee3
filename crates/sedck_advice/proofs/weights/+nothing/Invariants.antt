use Rattle.sedck_advice.proofs.Common.{◌≡◌, drop, map, trees, tree}
use Rattle.sedck_expressions.specs.Misjudged.{all_may_be_empty}
use Rattle.sedck_advice.proofs.weights.+nothing.Given as goal

-- everything before may match nothing
abbrev pub invariant-all_may_be_empty-loop-item : goal.invariant-all_may_be_empty-loop-item
invariant-all_may_be_empty-loop-item l =
    all_may_be_empty (trees (map tree (drop l.item-index l.items))) ≡ all_may_be_empty (trees (map tree l.items))
