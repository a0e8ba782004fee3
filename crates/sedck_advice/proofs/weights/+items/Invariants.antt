use Rattle.sedck_advice.proofs.Common.{◌≡◌, min, take, map, trees, cap, tree, all_written_out}
use Rattle.sedck_advice.proofs.weights.+items.Given as goal

abbrev pub invariant-all_written_out-loop-item : goal.invariant-all_written_out-loop-item
invariant-all_written_out-loop-item l = l.total ≡ min (all_written_out l.is_inside (trees (map tree (take l.item-index l.items)))) cap
