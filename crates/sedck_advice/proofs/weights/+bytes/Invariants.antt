use Rattle.sedck_advice.proofs.Common.{◌≡◌, drop, map, trees, tree}
use Rattle.sedck_script.specs.ByteSafe.{one_splits}
use Rattle.sedck_advice.proofs.weights.+bytes.Given as goal

-- nothing before splits a character, and so many bytes are due
abbrev pub invariant-one_splits-loop-item : goal.invariant-one_splits-loop-item
invariant-one_splits-loop-item l =
    one_splits (trees (map tree (drop l.item-index l.items))) l.due ≡ one_splits (trees (map tree l.items)) 0
