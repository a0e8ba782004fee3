use Rattle.sedck_advice.proofs.Common.{AddsOthers}
use Rattle.sedck_advice.proofs.names.name_warnings.Given as goal

abbrev pub invariant-loop-doubt : goal.invariant-loop-doubt
invariant-loop-doubt l = AddsOthers l.initial.findings.items l.findings.items
