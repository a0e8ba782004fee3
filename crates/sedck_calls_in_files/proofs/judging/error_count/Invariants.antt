use Rattle.sedck_calls_in_files.proofs.Common.{◌≤◌}
use Rattle.sedck_calls_in_files.proofs.judging.error_count.Given as goal

abbrev pub invariant-loop-finding : goal.invariant-loop-finding
invariant-loop-finding l = l.count ≤ l.finding-index
