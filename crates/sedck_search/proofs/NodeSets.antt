-- Rows as sets: what their counts say of their nodes.
use Rattle.sedck_search.proofs.Common.{◌≡◌, ◌≢◌, ℕ, suc, ◌+◌, ◌*◌, ◌/◌, ◌%◌, ◌<◌, ◌≤◌, Bool, true, false, List, replicate, refl, sym, ap, ◌∙◌, arith, slice_index, count_ones, bit_at, true≢false, ones-le, bit_count, IsNodeSet, IsEmpty, HasChanged, false≢true}
use Rattle.sedck_search.specs.Private.NodeSet.{has}
use Rattle.sedck_search.proofs.Totals.{total, total_same, total_fewer, total_less, total_one_more, total_within, word_total, set_total}
use Rattle.sedck_search.proofs.NodeBits.{bit_of, node_bit, at_node, word_below, none_behind, empty_set, empty_nodes}

-- a bit has one value
pub not_both : {b : Bool} → b ≡ true → b ≡ false → ⊥
not_both h k = true≢false (sym h ∙ k)

-- how many bits of a word of the set are set
abbrev ones_at : List ℕ → ℕ → ℕ
ones_at words j = count_ones (slice_index words j)

count_total : (a : List ℕ) → IsNodeSet a → bit_count a ≡ total (ones_at a) 256
count_total a members = set_total a ∙ ap (total (ones_at a)) members.long

ones_total : (a : List ℕ) → IsNodeSet a → (j : ℕ) → j < 256 → ones_at a j ≡ total (bit_at (slice_index a j)) 64
ones_total a members j l = word_total 64 (slice_index a j) (word_below a members j l)

-- ---- One set within another

abbrev IsWithin : List ℕ → List ℕ → Type 0
IsWithin a b = (i : ℕ) → has a i ≡ true → has b i ≡ true

bit_within : (x y : Bool) → (x ≡ true → y ≡ true) → bit_of x ≤ bit_of y
bit_within x y h = grind arith

bits_within : (a b : List ℕ) → IsWithin a b → (j k : ℕ) → k < 64 → bit_at (slice_index a j) k ≤ bit_at (slice_index b j) k
bits_within a b h j k l =
    omega (arith, node_bit a j k l, node_bit b j k l, bit_within (has a (64 * j + k)) (has b (64 * j + k)) (h (64 * j + k)))

ones_within : (a b : List ℕ) → IsNodeSet a → IsNodeSet b → IsWithin a b → (j : ℕ) → j < 256 → ones_at a j ≤ ones_at b j
ones_within a b x y h j l =
    let fewer = total_fewer 64 (bit_at (slice_index a j)) (bit_at (slice_index b j)) (bits_within a b h j) in
    omega (arith, fewer, ones_total a x j l, ones_total b y j l)

pub fewer_or_same : (a b : List ℕ) → IsNodeSet a → IsNodeSet b → ((i : ℕ) → has a i ≡ true → has b i ≡ true) → bit_count a ≤ bit_count b
fewer_or_same a b x y h =
    let fewer = total_fewer 256 (ones_at a) (ones_at b) (ones_within a b x y h) in
    omega (arith, fewer, count_total a x, count_total b y)

-- a node of a set lies below 16,384
pub node_inside : (a : List ℕ) → IsNodeSet a → (i : ℕ) → has a i ≡ true → i / 64 < 256
node_inside a members i h = grind (arith, none_behind a i, members.long)

ones_less : (a b : List ℕ) → IsNodeSet a → IsNodeSet b → IsWithin a b → (i : ℕ) → i / 64 < 256 → has a i ≡ false → has b i ≡ true
    → ones_at a (i / 64) < ones_at b (i / 64)
ones_less a b x y h i l none some =
    let low : i % 64 < 64 = omega arith in
    let bit : bit_at (slice_index a (i / 64)) (i % 64) < bit_at (slice_index b (i / 64)) (i % 64) =
    omega (arith, at_node a i, at_node b i, ap bit_of none, ap bit_of some) in
    let less = total_less 64 (bit_at (slice_index a (i / 64))) (bit_at (slice_index b (i / 64))) (bits_within a b h (i / 64)) (i % 64) low bit in
    omega (arith, less, ones_total a x (i / 64) l, ones_total b y (i / 64) l)

pub strictly_fewer : (a b : List ℕ) → IsNodeSet a → IsNodeSet b → ((i : ℕ) → has a i ≡ true → has b i ≡ true) → (i : ℕ) → has a i ≡ false → has b i ≡ true
    → bit_count a < bit_count b
strictly_fewer a b x y h i none some =
    let inside = node_inside b y i some in
    let less = total_less 256 (ones_at a) (ones_at b) (ones_within a b x y h) (i / 64) inside (ones_less a b x y h i inside none some) in
    omega (arith, less, count_total a x, count_total b y)

pub same_nodes : (a b : List ℕ) → IsNodeSet a → IsNodeSet b → ((i : ℕ) → has a i ≡ true → has b i ≡ true) → bit_count a ≡ bit_count b → (i : ℕ)
    → has b i ≡ true → has a i ≡ true
same_nodes a b x y h same i some = grind (arith, strictly_fewer a b x y h i)

-- ---- The count of one set

pub counts_node : (a : List ℕ) → IsNodeSet a → (i : ℕ) → has a i ≡ true → 0 < bit_count a
counts_node a members i some =
    omega (arith, strictly_fewer (replicate 256 0) a empty_set members (λ k h. absurd (false≢true (sym (empty_nodes k) ∙ h))) i (empty_nodes i) some)

-- a set that counts no node has none
pub count_none : (a : List ℕ) → IsNodeSet a → bit_count a ≡ 0 → IsEmpty a
count_none a members none i = go (has a i) refl
  where
    go : (found : Bool) → has a i ≡ found → has a i ≡ false
    go true e = absurd (omega (arith, none, counts_node a members i e))
    go false e = e

pub count_within : (a : List ℕ) → IsNodeSet a → bit_count a ≤ 16384
count_within a members =
    let few = total_within 256 (ones_at a) 64 (λ j l. ones-le 64 (slice_index a j) (word_below a members j l)) in
    omega (arith, few, count_total a members)

-- ---- One node more or less

one_more : (a b : List ℕ) → IsNodeSet a → IsNodeSet b → (node : ℕ) → has a node ≡ false → has b node ≡ true → ((i : ℕ) → i ≢ node → has b i ≡ has a i)
    → bit_count b ≡ suc (bit_count a)
one_more a b x y node none some others =
    let inside = node_inside b y node some in
    count_total b y ∙ total_one_more 256 (ones_at a) (ones_at b) (node / 64) inside other_words (in_word inside) ∙ ap suc (sym (count_total a x))
  where
    same_bit : (j k : ℕ) → k < 64 → 64 * j + k ≢ node → bit_at (slice_index a j) k ≡ bit_at (slice_index b j) k
    same_bit j k l other = node_bit a j k l ∙ sym (ap bit_of (others (64 * j + k) other)) ∙ sym (node_bit b j k l)

    other_words : (j : ℕ) → j < 256 → j ≢ node / 64 → ones_at a j ≡ ones_at b j
    other_words j l other =
        ones_total a x j l ∙ total_same 64 (bit_at (slice_index a j)) (bit_at (slice_index b j))
        (λ k low. same_bit j k low (λ e. other (omega (arith, e, low)))) ∙ sym (ones_total b y j l)

    in_word : node / 64 < 256 → ones_at b (node / 64) ≡ suc (ones_at a (node / 64))
    in_word inside =
        let low : node % 64 < 64 = omega arith in
        let bit : bit_at (slice_index b (node / 64)) (node % 64) ≡ suc (bit_at (slice_index a (node / 64)) (node % 64)) =
        omega (arith, at_node a node, at_node b node, ap bit_of none, ap bit_of some) in
        ones_total b y (node / 64) inside
        ∙ total_one_more 64 (bit_at (slice_index a (node / 64))) (bit_at (slice_index b (node / 64))) (node % 64) low
        (λ k l other. same_bit (node / 64) k l (λ e. other (omega (arith, e, l)))) bit
        ∙ ap suc (sym (ones_total a x (node / 64) inside))

pub inserted_count : (a b : List ℕ) → IsNodeSet a → IsNodeSet b → (i : ℕ) → HasChanged a b i true → has a i ≡ false → bit_count b ≡ suc (bit_count a)
inserted_count a b x y i changed none = one_more a b x y i none changed.at changed.others

pub removed_count : (a b : List ℕ) → IsNodeSet a → IsNodeSet b → (i : ℕ) → HasChanged a b i false → has a i ≡ true → suc (bit_count b) ≡ bit_count a
removed_count a b x y i changed some = sym (one_more b a y x i changed.at some (λ k other. sym (changed.others k other)))
