use Rattle.sedck_advice.proofs.Common.{◌≡◌, drop, map, trees, tree}
use Rattle.sedck_advice.specs.References.{one_has_reference}
use Rattle.sedck_advice.proofs.weights.+references.Given as goal

-- nothing before has a reference
abbrev pub invariant-one_has_reference-loop-item : goal.invariant-one_has_reference-loop-item
invariant-one_has_reference-loop-item l =
    one_has_reference (trees (map tree (drop l.item-index l.items))) ≡ one_has_reference (trees (map tree l.items))
