use Rattle.sedck_calls_in_files.proofs.Common.{◌≡◌, All, IsWarningIn}
use Rattle.sedck_calls_in_files.proofs.holes.open_warnings.Given as goal

abbrev pub invariant-loop-hole : goal.invariant-loop-hole
invariant-loop-hole l = (l.places.file.now ≡ l.file) × All (IsWarningIn l.file) l.findings.items
