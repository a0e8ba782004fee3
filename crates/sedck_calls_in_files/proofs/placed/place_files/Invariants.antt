use Rattle.sedck_calls_in_files.proofs.Common.{◌≡◌}
use Rattle.sedck_report.specs.Files.{names_of}
use Rattle.sedck_calls_in_files.proofs.placed.place_files.Given as goal

-- the names stay
abbrev pub invariant-loop-file : goal.invariant-loop-file
invariant-loop-file l = (l.places.file ≡ l.initial.places.file) × (names_of l.file-items ≡ names_of l.initial.file-items)
