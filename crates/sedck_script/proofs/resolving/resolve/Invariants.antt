use Rattle.sedck_script.proofs.Common.{length, map, reverse, All, command_of, item_of, IsKnownLabel, item_label}
use Rattle.sedck_script.proofs.ResolvingLemmas.{IsBack}
use Rattle.sedck_script.proofs.resolving.resolve.Given as goal

abbrev pub invariant-loop-item : goal.invariant-loop-item
invariant-loop-item l = record {
  back : IsBack l.labels l.end (map item_of l.fn.items.items) (map item_of l.items.items) (reverse (map command_of l.commands.items)) (reverse l.targets.items);
  known : All (λ item. IsKnownLabel l.labels (item_label (item_of item))) l.items.items;
}

abbrev pub decreases-loop-item : goal.decreases-loop-item
decreases-loop-item l = length l.items.items
