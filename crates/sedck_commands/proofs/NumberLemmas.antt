-- Values of digits, up to a limit.
use Rattle.sedck_commands.proofs.Common.{◌≡◌, ℕ, ◌+◌, ◌-◌, ◌*◌, ◌^◌, ◌<◌, min, true, List, take, length, get_or, ap, sym, ◌∙◌, subst, arith, digits_value, list_all, is_digit, Longest, Number, longest_one}
use Rattle.std.specs.Char.{digit_value}
use Rattle.std.proofs.lemmas.Int.Digits.{digits_value_more}
use Rattle.std.proofs.lemmas.List.Sums.{AllPass-from_list_all}

value_of_digit : (b : ℕ) → is_digit b ≡ true → digit_value b ≡ b - 48
value_of_digit b h = grind (arith, h)

pub digit_at : (digits : List ℕ) (i : ℕ) → i < length digits → list_all is_digit digits ≡ true → is_digit (get_or digits i 0) ≡ true
digit_at digits i lt all = AllPass-from_list_all is_digit digits all i 0 lt

limit_step : (a v d : ℕ) → v ≡ min a 4294967296 → min (v * 10 + d) 4294967296 ≡ min (a * 10 + d) 4294967296
limit_step a v d e = omega arith

-- one more digit
pub digits_more : (digits : List ℕ) (i v : ℕ) → i < length digits → list_all is_digit digits ≡ true
    → v ≡ min (digits_value 10 (take i digits)) 4294967296
    → min (v * 10 + (get_or digits i 0 - 48)) 4294967296 ≡ min (digits_value 10 (take (i + 1) digits)) 4294967296
digits_more digits i v lt all e =
    let digit = value_of_digit _ (digit_at digits i lt all) in
    let more = digits_value_more 10 digits i lt in
    limit_step _ v (get_or digits i 0 - 48) e ∙ ap (λ n. min n 4294967296) (ap (λ d. digits_value 10 (take i digits) * 10 + d) (sym digit) ∙ sym more)

-- what a number says of the digits at the start
pub record AreNumber (digits : List ℕ) : Type 0 where
  pub some : 0 < length digits
  pub positive : 0 < digits_value 10 digits
  pub fits : digits_value 10 digits < 2 ^ 32

pub number_digits : {text digits rest r : List ℕ} {n : ℕ} → Longest is_digit text digits rest → Number text n r → AreNumber digits
number_digits l a =
    let same = (longest_one a.run l).0 in
    subst AreNumber same (record { some = a.some; positive = subst (λ k. 0 < k) a.is a.positive; fits = subst (λ k. k < 2 ^ 32) a.is a.fits })
