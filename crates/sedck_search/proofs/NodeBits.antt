-- A node of a set as a bit of a word.
use Rattle.sedck_search.proofs.Common.{◌≡◌, ◌≢◌, ◌⊎◌, ℕ, zero, suc, ◌+◌, ◌-◌, ◌*◌, ◌/◌, ◌%◌, ◌^◌, ◌<◌, ◌≤◌, Bool, true, false, List, length, replicate, inl, inr, subst, refl, sym, ap, ◌∙◌, arith, slice_index, bit_and, bit_or, ◌==◌, bit_at, cases_eq, nat_tests, bit_at-lt, bit_at-zero, and_le_l, bit_count, AreZeroBefore, IsNodeSet, IsEmpty, HasChanged, IsUnion, cond, max, min, ◌++◌, ap₂, take, drop, get_or-take, get_or-drop, bit_at_set_same, bit_at_set_other, bit_at_clear_same, bit_at_clear_other, bit_at_or, or_lt, get_or_past, ext_get_or, cases_lt, All-get_or, All-set, All-replicate, All-from_get_or, AreZeroFrom, AreWordsOfBoth}
use Rattle.std.proofs.Common.{set, get_or-set_other, get_or-set_same, length-set, length-take, length-drop}
use lib.Count.{ones}
use Rattle.std.specs.Int.{w64}
use borrow.Rule.Slice.PartMut.{put_mid, put_same, Post-is}
use Rattle.sedck_search.specs.Private.NodeSet.{has}

abbrev pub bit_of : Bool → ℕ
bit_of b = cond b 1 0

bit_test : (bit : ℕ) → bit < 2 → bit ≡ bit_of (bit == 1)
bit_test bit l = grind (arith, nat_tests)

-- bit k of word j is node 64 * j + k
pub node_bit : (words : List ℕ) (j k : ℕ) → k < 64 → bit_at (slice_index words j) k ≡ bit_of (has words (64 * j + k))
unfolding has
node_bit words j k l =
    let at : (64 * j + k) / 64 ≡ j = omega arith in
    let low : (64 * j + k) % 64 ≡ k = omega arith in
    rw (at, low) (bit_test (bit_at (slice_index words j) k) (bit_at-lt (slice_index words j) k))

-- a node by its word and bit
pub at_node : (words : List ℕ) (i : ℕ) → bit_at (slice_index words (i / 64)) (i % 64) ≡ bit_of (has words i)
unfolding has
at_node words i = bit_test (bit_at (slice_index words (i / 64)) (i % 64)) (bit_at-lt (slice_index words (i / 64)) (i % 64))

pub has_by_bit : (words : List ℕ) (i : ℕ) (now : Bool) → bit_at (slice_index words (i / 64)) (i % 64) ≡ bit_of now → has words i ≡ now
unfolding has
has_by_bit words i now e = grind (arith, nat_tests)

pub has_at : (words : List ℕ) (j k : ℕ) (now : Bool) → k < 64 → bit_at (slice_index words j) k ≡ bit_of now → has words (64 * j + k) ≡ now
has_at words j k now l e =
    let at : (64 * j + k) / 64 ≡ j = omega arith in
    let low : (64 * j + k) % 64 ≡ k = omega arith in
    has_by_bit words (64 * j + k) now (rw (at, low) e)

-- no node lies after the words
pub none_behind : (words : List ℕ) (i : ℕ) → length words ≤ i / 64 → has words i ≡ false
none_behind words i l =
    has_by_bit words i false (ap (λ m. bit_at m (i % 64)) (get_or_past words (i / 64) 0 l) ∙ bit_at-zero (i % 64))

-- ---- One word changes

pub changed_set : (words : List ℕ) (j word : ℕ) → word < 2 ^ 64 → IsNodeSet words → IsNodeSet (set words j word)
changed_set words j word small members = record {
  long = omega (arith, length-set words j word, members.long);
  small = All-set (λ w. w < 2 ^ 64) words j word small members.small;
}

same_place : (i node : ℕ) → i / 64 ≡ node / 64 → i % 64 ≡ node % 64 → i ≡ node
same_place i node word bit = omega (arith, word, bit)

-- a word with another bit at the node's place
pub changed_word : (words : List ℕ) (node word : ℕ) (now : Bool) → node / 64 < length words → bit_at word (node % 64) ≡ bit_of now
    → ((k : ℕ) → k < 64 → k ≢ node % 64 → bit_at word k ≡ bit_at (slice_index words (node / 64)) k) → HasChanged words (set words (node / 64) word) node now
changed_word words node word now inside bit kept = record {
  at = has_by_bit after node now (ap (λ m. bit_at m (node % 64)) (get_or-set_same words (node / 64) word 0 inside) ∙ bit);
  others = λ i other. has_by_bit after i (has words i) (elim (cases_eq (i / 64) (node / 64)) [
    | inl same ↦ in_word i other same
    | inr apart ↦ ap (λ m. bit_at m (i % 64)) (get_or-set_other words (node / 64) (i / 64) word 0 apart) ∙ at_node words i
  ]);
}
  where
    after : List ℕ
    after = set words (node / 64) word

    in_word : (i : ℕ) → i ≢ node → i / 64 ≡ node / 64 → bit_at (slice_index after (i / 64)) (i % 64) ≡ bit_of (has words i)
    in_word i other same =
        let low : i % 64 < 64 = omega arith in
        ap (λ j. bit_at (slice_index after j) (i % 64)) same ∙ ap (λ m. bit_at m (i % 64)) (get_or-set_same words (node / 64) word 0 inside)
        ∙ kept (i % 64) low (λ e. other (same_place i node same e)) ∙ ap (λ j. bit_at (slice_index words j) (i % 64)) (sym same) ∙ at_node words i

pub word_below : (words : List ℕ) → IsNodeSet words → (j : ℕ) → j < 256 → slice_index words j < 2 ^ 64
word_below words members j l = All-get_or (λ w. w < 2 ^ 64) words j 0 (omega (arith, l, members.long)) members.small

-- the node's word with its bit set
abbrev pub with_bit : List ℕ → ℕ → ℕ
with_bit words node = bit_or (slice_index words (node / 64)) (1 * 2 ^ (node % 64) % 2 ^ 64)

pub inserted_set : (words : List ℕ) (node : ℕ) → node < 16384 → IsNodeSet words → IsNodeSet (set words (node / 64) (with_bit words node))
inserted_set words node l members =
    let bit : 1 * 2 ^ (node % 64) % 2 ^ 64 < 2 ^ 64 = omega arith in
    changed_set words (node / 64) (with_bit words node)
    (or_lt 64 (slice_index words (node / 64)) (1 * 2 ^ (node % 64) % 2 ^ 64) (word_below words members (node / 64) (omega arith)) bit) members

pub inserted : (words : List ℕ) (node : ℕ) → node < 16384 → IsNodeSet words → HasChanged words (set words (node / 64) (with_bit words node)) node true
inserted words node l members =
    let low : node % 64 < 64 = omega arith in
    changed_word words node (with_bit words node) true (omega (arith, members.long)) (bit_at_set_same w64 (slice_index words (node / 64)) (node % 64) low)
    (λ k _ other. bit_at_set_other w64 (slice_index words (node / 64)) (node % 64) low k other)

-- the node's word with its bit cleared
abbrev pub without_bit : List ℕ → ℕ → ℕ
without_bit words node = bit_and (slice_index words (node / 64)) (2 ^ 64 - 1 - 1 * 2 ^ (node % 64) % 2 ^ 64)

pub removed_set : (words : List ℕ) (node : ℕ) → node < 16384 → IsNodeSet words → IsNodeSet (set words (node / 64) (without_bit words node))
removed_set words node l members =
    let most = and_le_l (slice_index words (node / 64)) (2 ^ 64 - 1 - 1 * 2 ^ (node % 64) % 2 ^ 64) in
    let below = word_below words members (node / 64) (omega arith) in
    changed_set words (node / 64) (without_bit words node) (omega (arith, most, below)) members

pub removed : (words : List ℕ) (node : ℕ) → node < 16384 → IsNodeSet words → HasChanged words (set words (node / 64) (without_bit words node)) node false
removed words node l members =
    let low : node % 64 < 64 = omega arith in
    changed_word words node (without_bit words node) false (omega (arith, members.long)) (bit_at_clear_same w64 (slice_index words (node / 64)) (node % 64) low)
    (λ k below other. bit_at_clear_other w64 (slice_index words (node / 64)) (node % 64) low k below other)

-- ---- No node

pub empty_set : IsNodeSet (replicate 256 0)
empty_set = record { long = refl; small = All-replicate (λ w. w < 2 ^ 64) 256 0 (omega arith) }

zero_at : (n j : ℕ) → slice_index (replicate n 0) j ≡ 0
zero_at zero j = refl
zero_at (suc n) zero = refl
zero_at (suc n) (suc j) = zero_at n j

pub empty_nodes : IsEmpty (replicate 256 0)
empty_nodes node = has_by_bit (replicate 256 0) node false (ap (λ m. bit_at m (node % 64)) (zero_at 256 (node / 64)) ∙ bit_at-zero (node % 64))

pub empty_count : bit_count (replicate 256 0) ≡ 0
unfolding ones
empty_count = refl

-- ---- Two sets together

both_bit : (left right both : List ℕ) → IsNodeSet left → AreWordsOfBoth left right both → (i : ℕ) → i / 64 < 256
    → bit_of (has both i) ≡ max (bit_of (has left i)) (bit_of (has right i))
both_bit left right both is_left words i inside =
    sym (at_node both i) ∙ ap (λ w. bit_at w (i % 64)) (words.each (i / 64) (omega (arith, is_left.long, inside)))
    ∙ bit_at_or (slice_index left (i / 64)) (slice_index right (i / 64)) (i % 64)
    ∙ ap (λ b. max b (bit_at (slice_index right (i / 64)) (i % 64))) (at_node left i) ∙ ap (max (bit_of (has left i))) (at_node right i)

pub both_set : (left right both : List ℕ) → IsNodeSet left → IsNodeSet right → AreWordsOfBoth left right both → IsNodeSet both
both_set left right both is_left is_right words = record {
  long = words.long ∙ is_left.long;
  small = All-from_get_or (λ w. w < 2 ^ 64) both 0 (λ j below.
      let inside : j < 256 = omega (arith, below, words.long, is_left.long) in
      subst (λ w. w < 2 ^ 64) (sym (words.each j (omega (arith, inside, is_left.long))))
      (or_lt 64 (slice_index left j) (slice_index right j) (word_below left is_left j inside) (word_below right is_right j inside)));
}

pub both_union : (left right both : List ℕ) → IsNodeSet left → IsNodeSet right → AreWordsOfBoth left right both → IsUnion left right both
both_union left right both is_left is_right words = record {
  has_left = λ i x. by_bits (has left i) (has right i) (has both i) (both_bit left right both is_left words i (within left is_left i x)) (inl x);
  has_right = λ i x. by_bits (has left i) (has right i) (has both i) (both_bit left right both is_left words i (within right is_right i x)) (inr x);
  no_other = λ i x. from_bit (has left i) (has right i) (has both i)
      (both_bit left right both is_left words i (within both (both_set left right both is_left is_right words) i x)) x;
}
  where
    within : (a : List ℕ) → IsNodeSet a → (i : ℕ) → has a i ≡ true → i / 64 < 256
    within a members i x = grind (arith, none_behind a i, members.long)

    by_bits : (l r b : Bool) → bit_of b ≡ max (bit_of l) (bit_of r) → (l ≡ true) ⊎ (r ≡ true) → b ≡ true
    by_bits l r b e h = grind arith

    from_bit : (l r b : Bool) → bit_of b ≡ max (bit_of l) (bit_of r) → b ≡ true → (l ≡ true) ⊎ (r ≡ true)
    from_bit true r b e h = inl refl
    from_bit false true b e h = inr refl
    from_bit false false b e h = grind arith

-- ---- The words before the first one that may have a node, and those after the last one

pub none_before : (first : ℕ) → AreZeroBefore (replicate 256 0) first
none_before first j less = zero_at 256 j

pub none_from : (end : ℕ) → AreZeroFrom (replicate 256 0) end
none_from end j more = zero_at 256 j

pub inserted_before : (words : List ℕ) (node old new : ℕ) → new ≤ old → new ≤ node / 64 → AreZeroBefore words old
    → AreZeroBefore (set words (node / 64) (with_bit words node)) new
inserted_before words node old new fewer inside h j less =
    let other : j ≢ node / 64 = λ same. omega (arith, same, less, inside) in
    get_or-set_other words (node / 64) j (with_bit words node) 0 other ∙ h j (omega (arith, less, fewer))

pub inserted_from : (words : List ℕ) (node old new : ℕ) → old ≤ new → node / 64 < new → AreZeroFrom words old
    → AreZeroFrom (set words (node / 64) (with_bit words node)) new
inserted_from words node old new fewer inside h j more =
    let other : j ≢ node / 64 = λ same. omega (arith, same, more, inside) in
    get_or-set_other words (node / 64) j (with_bit words node) 0 other ∙ h j (omega (arith, more, fewer))

removed_zero : (words : List ℕ) (node j : ℕ) → node < 16384 → IsNodeSet words → slice_index words j ≡ 0
    → slice_index (set words (node / 64) (without_bit words node)) j ≡ 0
removed_zero words node j l members none = elim (cases_eq j (node / 64)) [
  | inl same ↦
      let zero : slice_index words (node / 64) ≡ 0 = subst (λ k. slice_index words k ≡ 0) same none in
      let most = and_le_l (slice_index words (node / 64)) (2 ^ 64 - 1 - 1 * 2 ^ (node % 64) % 2 ^ 64) in
      let at = ap (slice_index (set words (node / 64) (without_bit words node))) same
      ∙ get_or-set_same words (node / 64) (without_bit words node) 0 (omega (arith, members.long)) in
      omega (arith, zero, most, at)
  | inr apart ↦ get_or-set_other words (node / 64) j (without_bit words node) 0 apart ∙ none
]

pub removed_before : (words : List ℕ) (node first : ℕ) → node < 16384 → IsNodeSet words → AreZeroBefore words first
    → AreZeroBefore (set words (node / 64) (without_bit words node)) first
removed_before words node first l members h j less = removed_zero words node j l members (h j less)

pub removed_from : (words : List ℕ) (node end : ℕ) → node < 16384 → IsNodeSet words → AreZeroFrom words end
    → AreZeroFrom (set words (node / 64) (without_bit words node)) end
removed_from words node end l members h j more = removed_zero words node j l members (h j more)

both_zero : (left right both : List ℕ) → AreWordsOfBoth left right both → (j : ℕ) → j < length left → slice_index left j ≡ 0 → slice_index right j ≡ 0
    → slice_index both j ≡ 0
both_zero left right both words j below at_left at_right =
    let none : bit_or (slice_index left j) (slice_index right j) < 1 =
    or_lt 0 (slice_index left j) (slice_index right j) (omega (arith, at_left)) (omega (arith, at_right)) in
    omega (arith, words.each j below, none)

pub both_before : (left right both : List ℕ) → IsNodeSet left → AreWordsOfBoth left right both → (l r new : ℕ) → l ≤ 256 → AreZeroBefore left l
    → AreZeroBefore right r → new ≤ l → new ≤ r → AreZeroBefore both new
both_before left right both is_left words l r new within h k less_left less_right j less =
    both_zero left right both words j (omega (arith, less, less_left, within, is_left.long)) (h j (omega (arith, less, less_left)))
    (k j (omega (arith, less, less_right)))

pub both_from : (left right both : List ℕ) → AreWordsOfBoth left right both → (l r new : ℕ) → AreZeroFrom left l → AreZeroFrom right r → l ≤ new → r ≤ new
    → AreZeroFrom both new
both_from left right both words l r new h k less_left less_right j more = elim (cases_lt j (length left)) [
  | inl below ↦ both_zero left right both words j below (h j (omega (arith, more, less_left))) (k j (omega (arith, more, less_right)))
  | inr above ↦ get_or_past both j 0 (omega (arith, words.long, above))
]

-- ---- The words of another set

-- the words of two sets are the same, but for those between these two
outside_same : (old new : List ℕ) (start end : ℕ) → length old ≡ length new → AreZeroBefore old start → AreZeroBefore new start → AreZeroFrom old end
    → AreZeroFrom new end → (take start old ≡ take start new) × (drop end old ≡ drop end new)
outside_same old new start end long old_before new_before old_from new_from = (
  ext_get_or 0 (take start old) (take start new) (omega (arith, length-take start old, length-take start new, long)) front,
  ext_get_or 0 (drop end old) (drop end new) (omega (arith, length-drop end old, length-drop end new, long)) back,
)
  where
    front : (i : ℕ) → i < length (take start old) → slice_index (take start old) i ≡ slice_index (take start new) i
    front i below =
        let less : i < start = omega (arith, below, length-take start old) in
        get_or-take start old i 0 less ∙ old_before i less ∙ sym (get_or-take start new i 0 less ∙ new_before i less)

    back : (i : ℕ) → i < length (drop end old) → slice_index (drop end old) i ≡ slice_index (drop end new) i
    back i below = get_or-drop end old i 0 ∙ old_from (end + i) (omega arith) ∙ sym (get_or-drop end new i 0 ∙ new_from (end + i) (omega arith))

-- a set becomes another one where the words between these two are those of the other
pub copied : (old new copy : List ℕ) (f g e h least start end : ℕ) → IsNodeSet old → IsNodeSet new → AreZeroBefore old f → AreZeroBefore new g → AreZeroFrom old e
    → AreZeroFrom new h → end ≡ max e h → least ≡ min f g → start ≡ min least end → copy ≡ take (end - start) (drop start new)
    → put_mid start (end - start) old copy ≡ new
copied old new copy f g e h least start end old_set new_set old_before new_before old_from new_from is_end is_least is_start is_copy =
    let fits : start ≤ end = omega (arith, is_start) in
    let same = outside_same old new start end (old_set.long ∙ sym new_set.long)
    (λ j less. old_before j (omega (arith, less, is_start, is_least))) (λ j less. new_before j (omega (arith, less, is_start, is_least)))
    (λ j more. old_from j (omega (arith, more, is_end))) (λ j more. new_from j (omega (arith, more, is_end))) in
    ap (put_mid start (end - start) old) is_copy
    ∙ ap₂ (λ front back. front ++ (take (end - start) (drop start new) ++ back)) same.0 (Post-is start end old fits ∙ same.1 ∙ sym (Post-is start end new fits))
    ∙ put_same start (end - start) new
