use Rattle.sedck_advice.proofs.Common.{AddsOthers}
use Rattle.sedck_advice.proofs.looks.push_looks.Given as goal

abbrev pub invariant-loop-look : goal.invariant-loop-look
invariant-loop-look l = AddsOthers l.initial.findings.items l.findings.items
