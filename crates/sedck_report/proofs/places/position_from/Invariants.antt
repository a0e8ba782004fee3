use Rattle.std.proofs.Common.{◌≡◌}
use Rattle.sedck_report.specs.Positions.{position_in}
use Rattle.sedck_report.proofs.places.position_from.Given as goal

abbrev pub invariant-loop-index : goal.invariant-loop-index
invariant-loop-index l = l.position ≡ position_in l.text l.index
