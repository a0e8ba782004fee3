use Rattle.sedck_expressions.proofs.Common.{◌≡◌, length, has_symbol}
use Rattle.sedck_expressions.proofs.brackets.lists.has_symbol.Given as goal

abbrev pub invariant-symbols : goal.invariant-symbols
invariant-symbols l = has_symbol l.rest ≡ has_symbol l.text

abbrev pub decreases-symbols : goal.decreases-symbols
decreases-symbols l = length l.rest
