use Rattle.sedck_expressions.proofs.Common.{◌≡◌, ℕ, arith, ◌&&◌, ◌||◌, not, nat_tests, is_digit, is_from, is_letter}
use Rattle.sedck_expressions.proofs.SetLemmas.{just_same}
use Rattle.sedck_expressions.proofs.brackets.elements.punctuation.Goals as goal

-- what is between the digits, the upper-case and the lower-case letters
between : (b : ℕ) → ((is_from 33 47 b || is_from 58 64 b || is_from 91 96 b || is_from 123 126 b) ≡ (is_from 33 126 b && not (is_letter b || is_digit b)))
between b = grind (arith, nat_tests)

pub returns : goal.returns
returns c = just_same c.union-2.result.0 _ _ between
    (c.union-2.ensures _ _ (c.union.ensures _ _ (c.union-low.ensures _ _ c.range.ensures c.range-2.ensures) c.range-3.ensures) c.range-4.ensures)
