-- Words that are counted several at once: the sums of the lanes are the count.
use Rattle.sedck_search.proofs.Common.{◌≡◌, ℕ, suc, ◌+◌, ◌-◌, ◌<◌, ◌≤◌, ◌^◌, List, [], ◌∷◌, length, take, drop, Fits, w64, refl, sym, ap, ◌∙◌, arith, slice_index, count_ones, take-append-drop, bit_count, take-add}
use Rattle.std.proofs.Common.{map, take_all, length-drop}
use Rattle.std.proofs.lemmas.Simd.{adds_fit, sum_fits, sum-zip2, fold-sum, length-zip2, length-chunk}
use lib.Lanes.{sum_l, zip2, fold_l, Each2, Steps}
use Rattle.sedck_search.proofs.Totals.{bit_count-append, bit_count-take, bit_count-within}

-- the counts of the words, as lanes of a word each
abbrev pub lane_counts : List ℕ → List ℕ
lane_counts words = map (λ count. count) (map (λ word. count_ones word) words)

length-lane_counts : (words : List ℕ) → length (lane_counts words) ≡ length words
length-lane_counts [] = refl
length-lane_counts (word ∷ words) = ap suc (length-lane_counts words)

sum-lane_counts : (words : List ℕ) → sum_l (lane_counts words) ≡ bit_count words
sum-lane_counts [] = refl
sum-lane_counts (word ∷ words) = ap (λ m. count_ones word + m) (sum-lane_counts words)

-- the lanes after one step
abbrev pub next_sums : List ℕ → List ℕ → ℕ → List ℕ
next_sums sums words at = zip2 (λ a b. a + b) sums (lane_counts (take 8 (drop at words)))

bit_count-next : (words : List ℕ) (at : ℕ) → bit_count (take at words) + bit_count (take 8 (drop at words)) ≡ bit_count (take (at + 8) words)
bit_count-next words at = sym (ap bit_count (take-add at 8 words) ∙ bit_count-append (take at words) (take 8 (drop at words)))

small_count : (words : List ℕ) → length words ≤ 65536 → ((j : ℕ) → Fits w64 (slice_index words j)) → bit_count words < 2 ^ 64
small_count words short small = omega (arith, bit_count-within words small, short)

-- What holds of the lanes: each of the eight has the counts of its words so far.
pub record AreSums (words sums : List ℕ) (at : ℕ) : Type 0 where
  pub within : at ≤ length words
  pub eight : length sums ≡ 8
  pub sum : sum_l sums ≡ bit_count (take at words)

module _ (words sums : List ℕ) (at : ℕ) (short : length words ≤ 65536) (small : (j : ℕ) → Fits w64 (slice_index words j))
    (sums_are : AreSums words sums at) where
  pub next_fits : Each2 (λ a b. Fits w64 (a + b)) sums (lane_counts (take 8 (drop at words)))
  next_fits =
      adds_fit w64 sums (lane_counts (take 8 (drop at words)))
      (omega (
        arith,
        sums_are.sum,
        sum-lane_counts (take 8 (drop at words)),
        bit_count-next words at,
        bit_count-take words (at + 8),
        small_count words short small,
      ))

  pub next_are_sums : at + 8 ≤ length words → AreSums words (next_sums sums words at) (at + 8)
  next_are_sums room =
      let lanes = lane_counts (take 8 (drop at words)) in
      let long : length lanes ≡ 8 = length-lane_counts (take 8 (drop at words)) ∙ length-chunk at 8 words room in
      let same : length sums ≡ length lanes = sums_are.eight ∙ sym long in
      record {
        within = room;
        eight = length-zip2 (λ a b. a + b) sums lanes same ∙ sums_are.eight;
        sum = sum-zip2 sums lanes same ∙ ap (λ m. m + sum_l lanes) sums_are.sum
            ∙ ap (λ m. bit_count (take at words) + m) (sum-lane_counts (take 8 (drop at words))) ∙ bit_count-next words at;
      }

  pub last_fits : Steps (λ s x. Fits w64 (s + x)) (λ s x. s + x) 0 sums
  last_fits = sum_fits w64 0 sums (omega (arith, sums_are.sum, bit_count-take words at, small_count words short small))

  -- with the count of the rest
  pub whole_count : (rest : ℕ) → rest ≡ bit_count (take (length words - at) (drop at words)) → fold_l (λ s x. s + x) 0 sums + rest ≡ bit_count words
  whole_count rest is =
      let all = is ∙ ap bit_count (take_all (length words - at) (drop at words) (omega (arith, length-drop at words))) in
      omega (arith, all, fold-sum 0 sums, sums_are.sum, bit_count-append (take at words) (drop at words), ap bit_count (take-append-drop at words))

  pub whole_fits : (rest : ℕ) → rest ≡ bit_count (take (length words - at) (drop at words)) → Fits w64 (fold_l (λ s x. s + x) 0 sums + rest)
  whole_fits rest is = record { fits = omega (arith, whole_count rest is, small_count words short small) }
