-- The bytes that pass a test, and those of a set of four words.
use Rattle.sedck_expressions.proofs.Common.{◌≡◌, ◌≢◌, ℕ, suc, zero, ◌+◌, ◌*◌, ◌/◌, ◌%◌, ◌^◌, ◌<◌, ◌≤◌, Bool, true, false, List, [], refl, sym, ap, ◌∙◌, inl, inr, arith, ◌⊎◌, ◌==◌, slice_index, range_with_len, bit_at, w64, false≢true, nat_tests, bit_at-zero, is_in, bytes_where, AreWords, HasJust, bit_of, has_no_word, filter, trailing_zeros, cases_eq, bit_at-trailing_zeros, has_bit}
use Rattle.sedck_expressions.specs.View.{bytes_in}

-- ---- The bytes that pass a test

same_from : (p q : ℕ → Bool) (a n : ℕ) → ((b : ℕ) → b < a + n → p b ≡ q b) → filter p (range_with_len a n) ≡ filter q (range_with_len a n)
same_from p q a zero h = refl
same_from p q a (suc n) h = grind (arith, h a, same_from p q (a + 1) n (λ b l. h b (omega arith)))

pub same_where : (p q : ℕ → Bool) → ((b : ℕ) → b < 256 → p b ≡ q b) → bytes_where p ≡ bytes_where q
same_where p q h = same_from p q 0 256 (λ b l. h b (omega arith))

pub below_from : (p : ℕ → Bool) (b a n : ℕ) → b < a → is_in b (filter p (range_with_len a n)) ≡ false
below_from p b a zero l = refl
below_from p b a (suc n) l = grind (arith, nat_tests, below_from p b (a + 1) n)

pub in_from : (p : ℕ → Bool) (b a n : ℕ) → a ≤ b → b < a + n → is_in b (filter p (range_with_len a n)) ≡ p b
in_from p b a zero low high = absurd (omega arith)
in_from p b a (suc n) low high = grind (arith, nat_tests, below_from p b (a + 1) n, in_from p b (a + 1) n)

-- a byte is among them exactly where it passes
pub in_where : (p : ℕ → Bool) (b : ℕ) → b < 256 → is_in b (bytes_where p) ≡ p b
in_where p b l = in_from p b 0 256 (omega arith) (omega arith)

some_where : (p : ℕ → Bool) (b : ℕ) → b < 256 → p b ≡ true → bytes_where p ≢ []
some_where p b l h none = false≢true (sym (ap (is_in b) none) ∙ (in_where p b l ∙ h))

none_from : (a n : ℕ) → filter (λ b. false) (range_with_len a n) ≡ []
none_from a zero = refl
none_from a (suc n) = none_from (a + 1) n

-- ---- The bytes of four words

bit_is : (b : Bool) → (bit_of b == 1) ≡ b
bit_is b = grind arith

pub just_bytes : (words : List ℕ) (test : ℕ → Bool) → HasJust words test → bytes_in words ≡ bytes_where test
unfolding bytes_in
just_bytes words test just = same_where (has_bit words) test (λ b l. ap (λ n. n == 1) (just b l) ∙ bit_is (test b))

pub below_four : (i : ℕ) → i < 4 → (i ≡ 0) ⊎ ((i ≡ 1) ⊎ ((i ≡ 2) ⊎ (i ≡ 3)))
below_four i l = grind arith

no_word_at : (words : List ℕ) → has_no_word words ≡ true → (i : ℕ) → i < 4 → slice_index words i ≡ 0
no_word_at words h i l = grind (arith, nat_tests, below_four i l)

pub none_in : (words : List ℕ) → has_no_word words ≡ true → bytes_in words ≡ []
unfolding bytes_in
none_in words h =
    same_where (has_bit words) (λ b. false)
    (λ b l. ap (λ w. bit_at w (b % 64) == 1) (no_word_at words h (b / 64) (omega arith)) ∙ ap (λ n. n == 1) (bit_at-zero (b % 64)))
    ∙ none_from 0 256

-- a word that isn't 0
some_word : (words : List ℕ) → has_no_word words ≡ false → (i : ℕ) × (i < 4) × (slice_index words i ≡ 0 → ⊥)
some_word words none = elim (cases_eq (slice_index words 0) 0) [
  | inr some ↦ (0, omega arith, some)
  | inl a ↦ elim (cases_eq (slice_index words 1) 0) [
    | inr some ↦ (1, omega arith, some)
    | inl b ↦ elim (cases_eq (slice_index words 2) 0) [ inr some ↦ (2, omega arith, some) | inl c ↦ (3, omega arith, λ d. grind (arith, nat_tests)) ]
  ]
]

bit_set : (words : List ℕ) (i k : ℕ) → k < 64 → bit_at (slice_index words i) k ≡ 1 → has_bit words (64 * i + k) ≡ true
bit_set words i k l h =
    let at : (64 * i + k) / 64 ≡ i = omega arith in
    let low : (64 * i + k) % 64 ≡ k = omega arith in
    rw (at, low, h) refl

pub some_in : (words : List ℕ) → AreWords words → has_no_word words ≡ false → bytes_in words ≢ []
unfolding bytes_in
some_in words four h =
    let found = some_word words h in
    let w : ℕ = slice_index words found.0 in
    let below : w < 2 ^ 64 = four.1 found.0 0 (omega (arith, four.0, found.1)) in
    let bit = bit_at-trailing_zeros w64 w (omega (arith, found.2)) below in
    some_where (has_bit words) (64 * found.0 + trailing_zeros w64 w) (omega (arith, found.1, bit.0)) (bit_set words found.0 (trailing_zeros w64 w) bit.0 bit.1)
