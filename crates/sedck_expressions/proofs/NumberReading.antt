-- The value of digits, where one above 255 counts as 256, and what is read by it.
use Rattle.sedck_expressions.proofs.Common.{◌≡◌, ℕ, ◌+◌, ◌*◌, ◌-◌, ◌<◌, ◌≤◌, min, true, List, length, take, get_or, Some, None, ap, ◌∙◌, arith, IsTrue, list_all, digits_value, nat_tests, is_digit, Longest, number_of, number_at, AllPass-from_list_all}
use Rattle.std.specs.Char.{IsAsciiDigit}
use Rattle.std.proofs.lemmas.Int.Digits.{digits_value_more}
use Rattle.std.proofs.lemmas.Str.{digit_value_digit}
use Rattle.sedck_expressions.proofs.IntervalLemmas.{digits_are}

digit_of : (c : ℕ) → is_digit c ≡ true → IsAsciiDigit c
digit_of c h = grind (arith, nat_tests)

-- one more digit
pub digits_more : (digits : List ℕ) (i v : ℕ) → i < length digits → IsTrue (list_all is_digit digits) → v ≡ min (digits_value 10 (take i digits)) 256
    → min (v * 10 + (get_or digits i 0 - 48)) 256 ≡ min (digits_value 10 (take (i + 1) digits)) 256
digits_more digits i v lt all e =
    let value = digit_value_digit (get_or digits i 0) (digit_of _ (AllPass-from_list_all is_digit digits all i 0 lt)) in
    omega (arith, e, value, digits_value_more 10 digits i lt)

module _ {text digits rest : List ℕ} (l : Longest is_digit text digits rest) where
  pub number_none : length digits ≡ 0 → number_at text ≡ None
  number_none e = ap number_of (digits_are l) ∙ go digits e
    where
      go : (digits : List ℕ) → length digits ≡ 0 → number_of (digits, rest) ≡ None
      go digits e = grind arith

  pub number_large : (value : ℕ) → value ≡ min (digits_value 10 digits) 256 → 255 < value → number_at text ≡ None
  number_large value is h = ap number_of (digits_are l) ∙ go digits (omega (arith, is, h))
    where
      go : (digits : List ℕ) → 255 < digits_value 10 digits → number_of (digits, rest) ≡ None
      go digits h = grind (arith, nat_tests)

  pub number_some : (value : ℕ) → value ≡ min (digits_value 10 digits) 256 → (length digits ≡ 0 → ⊥) → value ≤ 255 → number_at text ≡ Some (value, rest)
  number_some value is some h = ap number_of (digits_are l) ∙ go digits some (omega (arith, is, h))
    where
      go : (digits : List ℕ) → (length digits ≡ 0 → ⊥) → value ≡ digits_value 10 digits → number_of (digits, rest) ≡ Some (value, rest)
      go digits some e = grind (arith, nat_tests)
