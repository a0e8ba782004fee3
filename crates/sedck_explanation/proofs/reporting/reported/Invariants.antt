use Rattle.sedck_explanation.proofs.Reports.{IsSortedOut}
use Rattle.sedck_explanation.proofs.reporting.reported.Given as goal

abbrev pub invariant-loop-finding : goal.invariant-loop-finding
invariant-loop-finding l = IsSortedOut l.text l.silence.denied l.yielded l.errors.items l.warnings.items l.notes.items
