use Rattle.sedck_expressions.proofs.Common.{◌≡◌, length, is_closed}
use Rattle.sedck_expressions.proofs.brackets.symbols.is_closed.Given as goal

abbrev pub invariant-ends : goal.invariant-ends
invariant-ends l = is_closed l.mark l.rest ≡ is_closed l.mark l.text

abbrev pub decreases-ends : goal.decreases-ends
decreases-ends l = length l.rest
