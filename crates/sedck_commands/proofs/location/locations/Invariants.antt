use Rattle.sedck_commands.proofs.Common.{◌≡◌, take, locations_in}
use Rattle.sedck_commands.proofs.location.locations.Given as goal

abbrev pub invariant-loop-item : goal.invariant-loop-item
invariant-loop-item l = l.locations.items ≡ locations_in (take l.item-index l.items)
