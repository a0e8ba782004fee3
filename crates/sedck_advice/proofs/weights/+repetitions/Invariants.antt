use Rattle.sedck_advice.proofs.Common.{◌≡◌, drop, map, trees, tree}
use Rattle.sedck_advice.specs.Slow.{one_repeats_badly}
use Rattle.sedck_advice.proofs.weights.+repetitions.Given as goal

-- nothing before repeats badly
abbrev pub invariant-one_repeats_badly-loop-item : goal.invariant-one_repeats_badly-loop-item
invariant-one_repeats_badly-loop-item l =
    one_repeats_badly (trees (map tree (drop l.item-index l.items))) ≡ one_repeats_badly (trees (map tree l.items))
