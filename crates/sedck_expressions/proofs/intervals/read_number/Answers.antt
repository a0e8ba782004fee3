use Rattle.sedck_expressions.proofs.Common.{sym, arith}
use Rattle.sedck_expressions.proofs.NumberReading.{number_none, number_large, number_some}
use Rattle.sedck_expressions.proofs.intervals.read_number.Goals as goal
use Rattle.sedck_expressions.proofs.intervals.read_number.Goals.{then-is_empty-via-then-is_empty, then-is_empty-via-else-is_empty+then-value-gt255}

pub returns-then-is_empty-clause-value : goal.returns-then-is_empty-clause-value
returns-then-is_empty-clause-value c = elim c.then-is_empty.branch [
  | then-is_empty-via-then-is_empty w ↦ sym (number_none c.split.ensures.run (grind (arith, w.if-is_empty.ensures)))
  | then-is_empty-via-else-is_empty+then-value-gt255 w ↦ sym (number_large c.split.ensures.run _ c.value_of-value.ensures w.if-value-gt255.true)
]

pub returns-clause-value : goal.returns-clause-value
returns-clause-value c =
    sym (number_some c.split.ensures.run _ c.value_of-value.ensures (λ e. grind (arith, e, c.if-is_empty.ensures, c.if-is_empty.false)) c.if-value-gt255.false)
