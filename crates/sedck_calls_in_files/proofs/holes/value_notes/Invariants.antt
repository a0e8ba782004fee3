use Rattle.sedck_calls_in_files.proofs.Common.{◌≡◌, All, IsWarningIn}
use Rattle.sedck_calls_in_files.proofs.holes.value_notes.Given as goal

abbrev pub invariant-loop-one : goal.invariant-loop-one
invariant-loop-one l = (l.places.file.now ≡ l.file) × All (IsWarningIn l.file) l.findings.items
