use Rattle.std.proofs.Common.{drop}
use Rattle.sedck_plain.specs.Mended.{AreGiven}
use Rattle.sedck_plain.proofs.mended.are_given.Given as goal

abbrev pub invariant-loop-location : goal.invariant-loop-location
invariant-loop-location l = AreGiven l.script l.from (drop l.location-index l.locations) l.rest → AreGiven l.script 0 l.locations l.text
