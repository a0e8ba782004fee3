-- Sums of a function over the numbers below a limit: with them bits are counted one by one.
use Rattle.sedck_search.proofs.Common.{◌≡◌, ◌≢◌, ℕ, zero, suc, ◌+◌, ◌-◌, ◌*◌, ◌<◌, ◌≤◌, ◌^◌, ◌/◌, List, [], ◌∷◌, ◌++◌, length, take, drop, Fits, w64, refl, sym, ap, ◌∙◌, arith, slice_index, count_ones, bit_at, take-append-drop, take_all, length-drop, ones-le, bit_count, AreZeroBefore, zero-add, add-zero, add_assoc, take_more, drop-drop, AreZeroFrom, bit_at_lowest, bit_at-suc}
use Rattle.std.specs.Int.Count.{ones_step}
use Rattle.std.proofs.Math.Nat.{pow-suc}
use Rattle.std.proofs.Math.Facts.{Fits-lt-pow}

pub total : (ℕ → ℕ) → ℕ → ℕ
total f zero = zero
total f (suc n) = f 0 + total (λ i. f (suc i)) n

pub total_same : (n : ℕ) (f g : ℕ → ℕ) → ((i : ℕ) → i < n → f i ≡ g i) → total f n ≡ total g n
unfolding total
total_same zero f g h = refl
total_same (suc n) f g h =
    let first : f 0 ≡ g 0 = h 0 (omega arith) in
    let others : total (λ i. f (suc i)) n ≡ total (λ i. g (suc i)) n = total_same n (λ i. f (suc i)) (λ i. g (suc i)) (λ i l. h (suc i) (omega arith)) in
    omega (arith, first, others)

pub total_fewer : (n : ℕ) (f g : ℕ → ℕ) → ((i : ℕ) → i < n → f i ≤ g i) → total f n ≤ total g n
unfolding total
total_fewer zero f g h = omega arith
total_fewer (suc n) f g h =
    omega (arith, h 0 (omega arith), total_fewer n (λ i. f (suc i)) (λ i. g (suc i)) (λ i l. h (suc i) (omega arith)))

-- where one summand is larger and no other is smaller
pub total_less : (n : ℕ) (f g : ℕ → ℕ) → ((i : ℕ) → i < n → f i ≤ g i) → (m : ℕ) → m < n → f m < g m → total f n < total g n
unfolding total
total_less zero f g h m l less = absurd (omega arith)
total_less (suc n) f g h zero l less =
    omega (arith, less, total_fewer n (λ i. f (suc i)) (λ i. g (suc i)) (λ i l. h (suc i) (omega arith)))
total_less (suc n) f g h (suc m) l less =
    omega (arith, h 0 (omega arith), total_less n (λ i. f (suc i)) (λ i. g (suc i)) (λ i l. h (suc i) (omega arith)) m (omega arith) less)

-- where one summand is larger by one and all others are the same
pub total_one_more : (n : ℕ) (f g : ℕ → ℕ) (m : ℕ) → m < n → ((i : ℕ) → i < n → i ≢ m → f i ≡ g i) → g m ≡ suc (f m) → total g n ≡ suc (total f n)
unfolding total
total_one_more zero f g m l h more = absurd (omega arith)
total_one_more (suc n) f g zero l h more =
    omega (arith, more, total_same n (λ i. f (suc i)) (λ i. g (suc i)) (λ i l. h (suc i) (omega arith) (λ e. absurd (omega (arith, e)))))
total_one_more (suc n) f g (suc m) l h more =
    omega (
      arith,
      h 0 (omega arith) (λ e. absurd (omega (arith, e))),
      total_one_more n (λ i. f (suc i)) (λ i. g (suc i)) m (omega arith) (λ i l other. h (suc i) (omega arith) (λ e. other (omega (arith, e)))) more,
    )

pub total_within : (n : ℕ) (f : ℕ → ℕ) (most : ℕ) → ((i : ℕ) → i < n → f i ≤ most) → total f n ≤ most * n
unfolding total
total_within zero f most h = omega arith
total_within (suc n) f most h =
    omega (arith, h 0 (omega arith), total_within n (λ i. f (suc i)) most (λ i l. h (suc i) (omega arith)))

-- ---- Counts as sums

-- the bits of a word
pub word_total : (k word : ℕ) → word < 2 ^ k → count_ones word ≡ total (bit_at word) k
unfolding total
word_total zero word small = omega (arith, ones-le 0 word small)
word_total (suc k) word small =
    let half : word / 2 < 2 ^ k = omega (arith, small, pow-suc 2 k) in
    let others : total (λ i. bit_at word (suc i)) k ≡ total (bit_at (word / 2)) k =
    total_same k (λ i. bit_at word (suc i)) (bit_at (word / 2)) (λ i l. bit_at-suc word i) in
    ones_step word ∙ ap (λ m. m + count_ones (word / 2)) (sym (bit_at_lowest word)) ∙ ap (λ m. bit_at word 0 + m) (word_total k (word / 2) half ∙ sym others)

-- the words of a set
pub set_total : (words : List ℕ) → bit_count words ≡ total (λ j. count_ones (slice_index words j)) (length words)
unfolding total
set_total [] = refl
set_total (word ∷ words) = ap (λ m. count_ones word + m) (set_total words)

-- ---- The words of a list one after another

pub bit_count-append : (a b : List ℕ) → bit_count (a ++ b) ≡ bit_count a + bit_count b
bit_count-append [] b = sym (zero-add (bit_count b))
bit_count-append (word ∷ a) b =
    ap (λ m. count_ones word + m) (bit_count-append a b) ∙ sym (add_assoc (count_ones word) (bit_count a) (bit_count b))

pub bit_count-within : (words : List ℕ) → ((j : ℕ) → Fits w64 (slice_index words j)) → bit_count words ≤ 64 * length words
bit_count-within words small =
    let few = total_within (length words) (λ j. count_ones (slice_index words j)) 64 (λ j l. ones-le 64 (slice_index words j) (Fits-lt-pow (small j))) in
    omega (arith, few, set_total words)

pub bit_count-more : (words : List ℕ) (i : ℕ) → i < length words → bit_count (take (i + 1) words) ≡ bit_count (take i words) + count_ones (slice_index words i)
bit_count-more words i l =
    ap bit_count (take_more words i 0 l) ∙ bit_count-append (take i words) (slice_index words i ∷ [])
    ∙ ap (λ m. bit_count (take i words) + m) (add-zero (count_ones (slice_index words i)))

-- words without a bit count for nothing
bit_count-drop : (words : List ℕ) (first : ℕ) → AreZeroBefore words first → bit_count (drop first words) ≡ bit_count words
bit_count-drop words zero h = refl
bit_count-drop [] (suc first) h = refl
bit_count-drop (word ∷ words) (suc first) h =
    let none : word ≡ 0 = h 0 (omega arith) in
    let few : count_ones word ≤ 0 = ones-le 0 word (omega (arith, none)) in
    omega (arith, few, bit_count-drop words first (λ j less. h (suc j) (omega (arith, less))))

bit_count-none : (words : List ℕ) (end : ℕ) → AreZeroFrom words end → bit_count (drop end words) ≡ 0
bit_count-none [] zero h = refl
bit_count-none [] (suc end) h = refl
bit_count-none (word ∷ words) zero h =
    let none : word ≡ 0 = h 0 (omega arith) in
    let few : count_ones word ≤ 0 = ones-le 0 word (omega (arith, none)) in
    omega (arith, few, bit_count-none words zero (λ j more. h (suc j) (omega arith)))
bit_count-none (word ∷ words) (suc end) h = bit_count-none words end (λ j more. h (suc j) (omega (arith, more)))

-- so those between them count for all
pub bit_count-between : (words : List ℕ) (start end : ℕ) → start ≤ end → AreZeroBefore words start → AreZeroFrom words end
    → bit_count (take (end - start) (drop start words)) ≡ bit_count words
bit_count-between words start end fits h k =
    let rest = drop start words in
    let cut : bit_count (take (end - start) rest) + bit_count (drop (end - start) rest) ≡ bit_count rest =
    sym (bit_count-append (take (end - start) rest) (drop (end - start) rest)) ∙ ap bit_count (take-append-drop (end - start) rest) in
    let at : start + (end - start) ≡ end = omega (arith, fits) in
    let none : bit_count (drop (end - start) rest) ≡ 0 =
    ap bit_count (drop-drop (end - start) start words ∙ ap (λ n. drop n words) at) ∙ bit_count-none words end k in
    omega (arith, cut, none, bit_count-drop words start h)

pub bit_count-take : (words : List ℕ) (i : ℕ) → bit_count (take i words) ≤ bit_count words
bit_count-take words i =
    let whole : bit_count (take i words) + bit_count (drop i words) ≡ bit_count words = sym (bit_count-append (take i words) (drop i words))
    ∙ ap bit_count (take-append-drop i words) in
    omega (arith, whole)
