-- A text is a number's decimal exactly where it is digits with no needless zero in front, and their value is the number.
use Rattle.sedck_cert.proofs.Common.{◌≡◌, ℕ, zero, suc, ◌+◌, ◌-◌, ◌*◌, ◌^◌, ◌<◌, ◌≤◌, List, length, get_or, take, take_all, refl, sym, ◌∙◌, ap, arith, AllDigits, digits_value, IsInRange, decimal_digit, decimal_nonempty, first_decimal, digits_decimal, digits_value-decimal, decimal-digits_value}
use Rattle.std.specs.Fmt.{decimal}
use Rattle.std.specs.Char.{digit_value}
use Rattle.std.proofs.lemmas.Str.Parse.{IsNumeralModel, numerals_by_value, tells_digits, digit_at, digits_value-take-le}
use Rattle.std.proofs.lemmas.Str.{digit_value_digit}
use Rattle.std.proofs.lemmas.Int.Digits.{digits_more, digits_value_more}

own : IsNumeralModel (AllDigits 10) (digits_value 10)
own = numerals_by_value _ tells_digits

pub decimal-some : (text : List ℕ) (n : ℕ) → n < 2 ^ 64 → text ≡ decimal n → 0 < length text
decimal-some text n small is = rw is (decimal_nonempty n small)

-- a zero in front stands alone
pub decimal-front : (text : List ℕ) (n : ℕ) → n < 2 ^ 64 → text ≡ decimal n → get_or text 0 0 ≡ 48 → length text ≡ 1
decimal-front text zero small is first = ap length (is ∙ decimal_digit 0 (omega arith))
decimal-front text (suc n) small is first =
    let above : 48 < get_or (decimal (suc n)) 0 0 = first_decimal (suc n) (omega arith) small in
    absurd (omega (arith, ap (λ t. get_or t 0 0) is))

pub decimal-digit : (text : List ℕ) (n i : ℕ) → n < 2 ^ 64 → text ≡ decimal n → i < length text → IsInRange 48 57 (get_or text i 0)
decimal-digit text n i small is within = digit_at text i (rw is (digits_decimal own n small)) within

-- a beginning of the text has no greater value
pub decimal-le : (text : List ℕ) (n i : ℕ) → n < 2 ^ 64 → text ≡ decimal n → digits_value 10 (take i text) ≤ n
decimal-le text n i small is =
    let most : digits_value 10 (take i text) ≤ digits_value 10 text = digits_value-take-le 10 text i (omega arith) in
    omega (arith, ap (digits_value 10) is ∙ digits_value-decimal own n small)

-- one more digit
pub digits-more : (text : List ℕ) (i value byte : ℕ) → i < length text → AllDigits 10 (take i text) → value ≡ digits_value 10 (take i text)
    → byte ≡ get_or text i 0 → IsInRange 48 57 byte → AllDigits 10 (take (i + 1) text) × (value * 10 + (byte - 48) ≡ digits_value 10 (take (i + 1) text))
digits-more text i value byte within all is read range =
    let above : digit_value byte + 48 ≡ byte = digit_value_digit byte range in
    let digit : digit_value byte ≡ byte - 48 = let d = digit_value byte in omega arith in
    let small : digit_value (get_or text i 0) < 10 = rw (← read, digit) (omega (arith, range)) in
    (digits_more 10 text i within all small, rw (digits_value_more 10 text i within, ← read, digit, ← is) refl)

-- digits with no needless zero in front are the decimal of their value
pub decimal-of_digits : (text : List ℕ) (i value : ℕ) → length text ≤ i → AllDigits 10 (take i text) → value ≡ digits_value 10 (take i text)
    → 0 < length text → (get_or text 0 0 ≡ 48 → length text ≡ 1) → value < 2 ^ 64 → text ≡ decimal value
decimal-of_digits text i value end all is some front small =
    let whole : take i text ≡ text = take_all i text end in
    let sure : AllDigits 10 text = rw whole at all in
    let same : value ≡ digits_value 10 text = is ∙ ap (digits_value 10) whole in
    sym (ap decimal same ∙ decimal-digits_value own text sure some front (omega (arith, same)))
