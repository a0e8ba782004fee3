-- Sets of bytes, word by word and bit by bit.
use Rattle.sedck_expressions.proofs.Common.{◌≡◌, ℕ, ◌+◌, ◌*◌, ◌-◌, ◌/◌, ◌%◌, ◌^◌, ◌<◌, ◌≤◌, Bool, List, [], ◌∷◌, ap, ◌∙◌, arith, ◌||◌, not, nat_lt, slice_index, bit_or, bit_at, nat_tests, bit_at_or, is_from, bit_of, HasJust, HasBitsBelow, bit_at_ones, bit_at_ones_above}
use Rattle.sedck_expressions.proofs.BracketSets.{below_four}

-- ---- One word

pub all_bits : (limit index : ℕ) → 64 * index + 64 ≤ limit → HasBitsBelow limit index 18446744073709551615
all_bits limit index l k below = grind (arith, nat_tests, bit_at_ones 64 k below)

pub some_bits : (limit index : ℕ) → 64 * index < limit → limit < 64 * index + 64 → HasBitsBelow limit index (2 ^ (limit - 64 * index) - 1)
some_bits limit index l h k below = grind (arith, nat_tests, bit_at_ones (limit - 64 * index) k, bit_at_ones_above (limit - 64 * index) k)

-- ---- Four words

abbrev four : (ℕ → ℕ) → List ℕ
four word = word 0 ∷ word 1 ∷ word 2 ∷ word 3 ∷ []

pub four_at : (word : ℕ → ℕ) (i : ℕ) → i < 4 → slice_index (four word) i ≡ word i
four_at word i l = grind (arith, below_four i l)

pub four_just : (word : ℕ → ℕ) (test : ℕ → Bool) → ((i k : ℕ) → i < 4 → k < 64 → bit_at (word i) k ≡ bit_of (test (64 * i + k))) → HasJust (four word) test
four_just word test h b l =
    let within : b / 64 < 4 = omega arith in
    let low : b % 64 < 64 = omega arith in
    let whole : 64 * (b / 64) + b % 64 ≡ b = omega arith in
    ap (λ w. bit_at w (b % 64)) (four_at word (b / 64) within) ∙ h (b / 64) (b % 64) within low ∙ ap (λ m. bit_of (test m)) whole

-- the bit of a byte in its word
pub bit_in : (words : List ℕ) (test : ℕ → Bool) → HasJust words test → (i k : ℕ) → i < 4 → k < 64 → bit_at (slice_index words i) k ≡ bit_of (test (64 * i + k))
bit_in words test h i k l below =
    let at : (64 * i + k) / 64 ≡ i = omega arith in
    let low : (64 * i + k) % 64 ≡ k = omega arith in
    rw (at, low) at (h (64 * i + k) (omega arith))

pub union_just : (a b : List ℕ) (p q : ℕ → Bool) → HasJust a p → HasJust b q
    → HasJust (four (λ i. bit_or (slice_index a i) (slice_index b i))) (λ c. p c || q c)
union_just a b p q h k =
    four_just (λ i. bit_or (slice_index a i) (slice_index b i)) (λ c. p c || q c)
    (λ i j l below. grind (arith, bit_at_or (slice_index a i) (slice_index b i) j, bit_in a p h i j l below, bit_in b q k i j l below))

abbrev Inverts : ℕ → ℕ → Type 0
Inverts a b = (k : ℕ) → k < 64 → bit_at b k ≡ 1 - bit_at a k

pub complement_just : (a : List ℕ) (p : ℕ → Bool) (w x y z : ℕ) → Inverts (slice_index a 0) w → Inverts (slice_index a 1) x
    → Inverts (slice_index a 2) y → Inverts (slice_index a 3) z → HasJust a p → HasJust (w ∷ x ∷ y ∷ z ∷ []) (λ c. not (p c))
complement_just a p w x y z f g s t h = four_just (slice_index (w ∷ x ∷ y ∷ z ∷ [])) (λ c. not (p c)) (λ i j l below.
    grind (arith, below_four i l, f j below, g j below, s j below, t j below, bit_in a p h i j l below))

-- a set by an equal test
pub just_same : (words : List ℕ) (p q : ℕ → Bool) → ((b : ℕ) → p b ≡ q b) → HasJust words p → HasJust words q
just_same words p q same h b l = h b l ∙ ap bit_of (same b)

pub range_test : (first last b : ℕ) → not (nat_lt b first || not (nat_lt b (last + 1))) ≡ is_from first last b
range_test first last b = grind (arith, nat_tests)
