use Rattle.sedck_script.proofs.Common.{◌<◌, ℕ, get_or, WrittenItem, IsKnownLabel, item_label, item_of}
use Rattle.sedck_script.proofs.resolving.check_targets.Given as goal

abbrev pub invariant-loop-item : goal.invariant-loop-item
invariant-loop-item l = (k : ℕ) (d : WrittenItem) → k < l.item-index → IsKnownLabel l.labels (item_label (item_of (get_or l.items k d)))
