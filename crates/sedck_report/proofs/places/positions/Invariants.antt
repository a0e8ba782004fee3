use Rattle.std.proofs.Common.{◌≡◌, map, take}
use Rattle.sedck_report.specs.Positions.{position_in}
use Rattle.sedck_report.proofs.places.positions.Given as goal

abbrev pub invariant-loop-offset : goal.invariant-loop-offset
invariant-loop-offset l = (l.from ≡ position_in l.text l.from.offset) × (l.positions.items ≡ map (position_in l.text) (take l.offset-index l.offsets))
