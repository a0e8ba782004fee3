-- The first node of a set from a node on, in the word of its lowest bit.
use Rattle.sedck_search.proofs.Common.{◌≡◌, ◌≢◌, ℕ, ◌+◌, ◌-◌, ◌*◌, ◌/◌, ◌%◌, ◌^◌, ◌<◌, ◌≤◌, min, true, false, List, inl, inr, refl, sym, ap, ◌∙◌, subst, arith, slice_index, bit_and, bit_at, cases_lt, and_le_l, bit_at-lt, bit_at-zero, IsNodeSet, trailing_zeros, bit_at_and, bit_at_mask_inside, bit_at_mask_below, ones_shl, bit_at-trailing_zeros, IsNext}
use Rattle.std.specs.Int.{w64}
use Rattle.sedck_search.specs.Private.NodeSet.{has}
use Rattle.sedck_search.proofs.NodeBits.{has_at, word_below, none_behind}

-- The word has the bits of word j of the set whose nodes aren't before the given one, and no other; and no node lies between that one and word j.
record IsFirstWord (words : List ℕ) (from j word : ℕ) : Type 0 where
  same : (k : ℕ) → k < 64 → from ≤ 64 * j + k → bit_at (slice_index words j) k ≡ bit_at word k
  before : (k : ℕ) → k < 64 → 64 * j + k < from → bit_at word k ≡ 0
  none : (i : ℕ) → from ≤ i → i < 64 * j → has words i ≡ false

none_in : (words : List ℕ) (from j word : ℕ) → IsFirstWord words from j word → (low : ℕ) → low ≤ 64 → ((k : ℕ) → k < low → bit_at word k ≡ 0)
    → (i : ℕ) → from ≤ i → i < 64 * j + low → has words i ≡ false
none_in words from j word first low within zeroes i above below = elim (cases_lt i (64 * j)) [
  | inl less ↦ first.none i above less
  | inr more ↦ in_word more
]
  where
    in_word : 64 * j ≤ i → has words i ≡ false
    in_word more =
        let whole : 64 * j + (i - 64 * j) ≡ i = omega (arith, more) in
        let inside : i - 64 * j < low = omega (arith, more, below) in
        let bit = first.same (i - 64 * j) (omega (arith, inside, within)) (omega (arith, whole, above)) in
        subst (λ m. has words m ≡ false) whole (has_at words j (i - 64 * j) false (omega (arith, inside, within)) (bit ∙ zeroes (i - 64 * j) inside))

none_in_word : (words : List ℕ) (from j word : ℕ) → IsFirstWord words from j word → word ≡ 0 → (i : ℕ) → from ≤ i → i < 64 * (j + 1) → has words i ≡ false
none_in_word words from j word first none i above below =
    none_in words from j word first 64 (omega arith) (λ k _. ap (λ m. bit_at m k) none ∙ bit_at-zero k) i above (omega (arith, below))

positive : (m : ℕ) → m ≢ 0 → 0 < m
positive m h = omega arith

-- the place of the word's lowest bit
next_at : (words : List ℕ) (from j word : ℕ) → IsFirstWord words from j word → j < 256 → (low : ℕ) → low < 64 → bit_at word low ≡ 1
    → ((k : ℕ) → k < low → bit_at word k ≡ 0) → IsNext words from (64 * j + low)
next_at words from j word first inside low within some none = (
  above,
  omega (arith, inside, within),
  has_at words j low true within (first.same low within above ∙ some),
  none_in words from j word first low (omega (arith, within)) none,
)
  where
    above : from ≤ 64 * j + low
    above = grind (arith, first.before low within)

next_in_word : (words : List ℕ) (from j word : ℕ) → IsFirstWord words from j word → j < 256 → word < 2 ^ 64 → word ≢ 0
    → IsNext words from (64 * j + trailing_zeros w64 word)
next_in_word words from j word first inside small some =
    let lowest = bit_at-trailing_zeros w64 word (positive word some) small in
    next_at words from j word first inside (trailing_zeros w64 word) lowest.0 lowest.1 lowest.2

-- ---- The word of the first node to be searched

abbrev pub from_bit : ℕ → ℕ → ℕ
from_bit word low = bit_and word ((2 ^ 64 - 1) * 2 ^ low % 2 ^ 64)

from_bit_is : (word low k : ℕ) → low < 64 → bit_at (from_bit word low) k ≡ min (bit_at word k) (bit_at (2 ^ 64 - 2 ^ low) k)
from_bit_is word low k l =
    ap (λ m. bit_at (bit_and word m) k) (ones_shl 64 low (omega arith)) ∙ bit_at_and word (2 ^ 64 - 2 ^ low) k

from_bit_above : (word low k : ℕ) → low < 64 → low ≤ k → k < 64 → bit_at word k ≡ bit_at (from_bit word low) k
from_bit_above word low k l above inside =
    omega (arith, from_bit_is word low k l, bit_at_mask_inside low 64 k above inside, bit_at-lt word k)

from_bit_below : (word low k : ℕ) → low < 64 → k < low → bit_at (from_bit word low) k ≡ 0
from_bit_below word low k l below =
    omega (arith, from_bit_is word low k l, bit_at_mask_below low 64 k below)

first_word : (words : List ℕ) (from : ℕ) → IsFirstWord words from (from / 64) (from_bit (slice_index words (from / 64)) (from % 64))
first_word words from =
    let low : from % 64 < 64 = omega arith in
    record {
      same = λ k inside above. from_bit_above (slice_index words (from / 64)) (from % 64) k low (omega (arith, above)) inside;
      before = λ k inside below. from_bit_below (slice_index words (from / 64)) (from % 64) k low (omega (arith, below));
      none = λ i above below. absurd (omega (arith, above, below));
    }

pub first_next : (words members : List ℕ) (from : ℕ) → words ≡ members → IsNodeSet words → from / 64 < 256 → from_bit (slice_index words (from / 64)) (from % 64) ≢ 0
    → IsNext members from (64 * (from / 64) + trailing_zeros w64 (from_bit (slice_index words (from / 64)) (from % 64)))
first_next words members from is good inside some =
    let less = and_le_l (slice_index words (from / 64)) ((2 ^ 64 - 1) * 2 ^ (from % 64) % 2 ^ 64) in
    let small : from_bit (slice_index words (from / 64)) (from % 64) < 2 ^ 64 = omega (arith, less, word_below words good (from / 64) inside) in
    subst (λ r. IsNext r from (64 * (from / 64) + trailing_zeros w64 (from_bit (slice_index words (from / 64)) (from % 64)))) is
    (next_in_word words from (from / 64) (from_bit (slice_index words (from / 64)) (from % 64)) (first_word words from) inside small some)

pub first_none : (words members : List ℕ) (from : ℕ) → words ≡ members → from_bit (slice_index words (from / 64)) (from % 64) ≡ 0
    → (i : ℕ) → from ≤ i → i < 64 * (from / 64 + 1) → has members i ≡ false
first_none words members from is none i above below =
    ap (λ r. has r i) (sym is) ∙ none_in_word words from (from / 64) (from_bit (slice_index words (from / 64)) (from % 64))
    (first_word words from) none i above below

-- ---- The words after it

later_word : (words members : List ℕ) (from j : ℕ) → words ≡ members → from / 64 + 1 ≤ j → ((i : ℕ) → from ≤ i → i < 64 * j → has members i ≡ false)
    → IsFirstWord words from j (slice_index words j)
later_word words members from j is behind none = record {
  same = λ k _ _. refl;
  before = λ k _ below. absurd (omega (arith, behind, below));
  none = λ i above below. ap (λ r. has r i) is ∙ none i above below;
}

pub later_next : (words members : List ℕ) (from j : ℕ) → words ≡ members → IsNodeSet words → j < 256 → from / 64 + 1 ≤ j
    → ((i : ℕ) → from ≤ i → i < 64 * j → has members i ≡ false) → slice_index words j ≢ 0
    → IsNext members from (64 * j + trailing_zeros w64 (slice_index words j))
later_next words members from j is good inside behind none some =
    subst (λ r. IsNext r from (64 * j + trailing_zeros w64 (slice_index words j))) is
    (next_in_word words from j (slice_index words j) (later_word words members from j is behind none) inside (word_below words good j inside) some)

pub later_none : (words members : List ℕ) (from j : ℕ) → words ≡ members → from / 64 + 1 ≤ j → ((i : ℕ) → from ≤ i → i < 64 * j → has members i ≡ false)
    → slice_index words j ≡ 0
    → (i : ℕ) → from ≤ i → i < 64 * (j + 1) → has members i ≡ false
later_none words members from j is behind none zeroes i above below =
    ap (λ r. has r i) (sym is) ∙ none_in_word words from j (slice_index words j) (later_word words members from j is behind none) zeroes i above below

-- no node lies after the last word
pub last_none : (words members : List ℕ) → words ≡ members → IsNodeSet words → (i : ℕ) → 256 ≤ i / 64 → has members i ≡ false
last_none words members is good i behind = ap (λ r. has r i) (sym is) ∙ none_behind words i (omega (arith, behind, good.long))
