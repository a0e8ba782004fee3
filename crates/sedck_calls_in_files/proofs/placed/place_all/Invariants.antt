use Rattle.sedck_calls_in_files.proofs.Common.{◌≡◌}
use Rattle.sedck_calls_in_files.proofs.placed.place_all.Given as goal

abbrev pub invariant-loop-position : goal.invariant-loop-position
invariant-loop-position l = l.places.file ≡ l.initial.places.file
