use Rattle.sedck_advice.proofs.Common.{AddsOthers}
use Rattle.sedck_advice.proofs.ignored.unknown_warnings.Given as goal

abbrev pub invariant-loop-word : goal.invariant-loop-word
invariant-loop-word l = AddsOthers l.initial.findings.items l.findings.items
