use Rattle.sedck_commands.proofs.Common.{arith}
use Rattle.sedck_commands.proofs.NumberLemmas.{number_digits}
use Rattle.sedck_commands.proofs.addresses.read_number.Goals as goal
use Rattle.sedck_commands.proofs.addresses.read_number.Goals.{then-is_empty-via-then-is_empty, then-is_empty-via-else-is_empty+then-value-eq0, then-is_empty-via-else-is_empty+else-value-eq0+then-value-eq-NUMBER_LIMIT}

pub returns-then-is_empty-clause-none : goal.returns-then-is_empty-clause-none
returns-then-is_empty-clause-none c = λ n rest a.
    let d = number_digits c.split.ensures.run a in
    elim c.then-is_empty.branch [
      | then-is_empty-via-then-is_empty w ↦ grind (arith, w.if-is_empty.ensures, d.some)
      | then-is_empty-via-else-is_empty+then-value-eq0 w ↦ omega (arith, d.positive, c.value_of-value.ensures, w.if-value-eq0.true)
      | then-is_empty-via-else-is_empty+else-value-eq0+then-value-eq-NUMBER_LIMIT w ↦ omega
          (arith, d.fits, c.value_of-value.ensures, w.if-value-eq-NUMBER_LIMIT.true)
    ]
