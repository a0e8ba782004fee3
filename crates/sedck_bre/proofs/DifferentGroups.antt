-- Outside of different groups that are items of the expression, however many there are, a match has a least rest.
use Rattle.sedck_bre.proofs.Common.{◌≡◌, min, ℕ, zero, suc, ◌+◌, ◌≤◌, Bool, true, false, List, [], ◌∷◌, filter, length, refl, sym, ◌∙◌, arith, bit_at, false≢true, nat_tests, Tree, Trees, Seq, groups_in_all, is_in, Groups, no_groups, WideMatch, IsWellFormed, cap, IsLeastSize, HasLength, is_top_group, names, texts_length, HasRest, IsLeastRest, no_bounds, outside, CountsFrom, are_numbered, IsTrue, range_with_len, bit_at-zero, NamesTopGroups}
use Rattle.sedck_bre.specs.Rests.{named}
use Rattle.sedck_expressions.proofs.BracketSets.{below_from, in_from}
use Rattle.sedck_bre.proofs.NamedSums.{items_sum, without, items_sum-none, items_sum-same, items_sum-split, texts_sum, sum_of-none}
use Rattle.sedck_bre.proofs.LeastRest.{HasWideFloor, lengths, items_rest, whole_rest, least-rest, least-size}

-- each is an item of the whole expression, and none is there twice
abbrev pub AreDifferentTopGroups : Tree → List ℕ → Type 0
AreDifferentTopGroups t [] = Unit {0}
AreDifferentTopGroups t (k ∷ ks) = IsTrue (is_top_group t k) × (is_in k ks ≡ false) × AreDifferentTopGroups t ks

-- whether the group is in the list
abbrev listed : List ℕ → ℕ → Bool
listed ks k = is_in k ks

-- without its first number a list has the others
without_first : (j : ℕ) (js : List ℕ) → is_in j js ≡ false → (k : ℕ) → without j (listed (j ∷ js)) k ≡ listed js k
without_first j js absent k = grind (arith, nat_tests)

-- the texts of the groups are those of the items that are in the list
texts_items : (e : Groups) (ts : Trees) → CountsFrom 1 (groups_in_all ts) → (ks : List ℕ) → AreDifferentTopGroups (Seq ts) ks
    → texts_length e ks ≡ items_sum (listed ks) (lengths e) ts
texts_items e ts h [] top = sym (items_sum-none (listed []) (lengths e) ts (λ k. refl))
texts_items e ts h (k ∷ ks) top =
    let here : listed (k ∷ ks) k ≡ true = grind (arith, nat_tests) in
    let split = items_sum-split (listed (k ∷ ks)) (lengths e) k ts 1 h here top.0 in
    let same = items_sum-same (without k (listed (k ∷ ks))) (listed ks) (lengths e) ts (without_first k ks top.1) in
    omega (arith, split, same, texts_items e ts h ks top.2)

-- an expression that is no list of items has no group as an item
no_items : (t : Tree) (ks : List ℕ) → ((k : ℕ) → is_top_group t k ≡ false) → AreDifferentTopGroups t ks → (e : Groups) → texts_length e ks ≡ 0
no_items t [] none top e = refl
no_items t (k ∷ ks) none top e = absurd (false≢true (sym (none k) ∙ top.0))

-- the least rest of a match, which no wide match is below
pub wide_rest_of : (t : Tree) → IsWellFormed t → (ks : List ℕ) → AreDifferentTopGroups t ks → (n : ℕ) × HasWideFloor t ks n
wide_rest_of (Seq ts) f ks top = (_, items_rest (listed ks) ts ks f (λ e. texts_items e ts (are_numbered (Seq ts) f) ks top))
wide_rest_of t f ks top = (_, whole_rest t ks f (no_items t ks (λ k. refl) top))

pub least_rest_of : (t : Tree) → IsWellFormed t → (ks : List ℕ) → AreDifferentTopGroups t ks → (n : ℕ) × IsLeastRest t ks n
least_rest_of t f ks top = let least = wide_rest_of t f ks top in (least.0, least-rest t ks least.0 least.1)

-- ---- The groups that bits name

some_different : (p : ℕ → Bool) (t : Tree) → ((k : ℕ) → p k ≡ true → is_top_group t k ≡ true) → (a n : ℕ) → AreDifferentTopGroups t (filter p (range_with_len a n))
some_different p t top a zero = tt
some_different p t top a (suc n) = grind (arith, top a, below_from p a (a + 1) n, some_different p t top (a + 1) n)

absent : (p : ℕ → Bool) (k : ℕ) (ks : List ℕ) → p k ≡ false → is_in k (filter p ks) ≡ false
absent p k [] h = refl
absent p k (j ∷ ks) h = grind (arith, nat_tests, absent p k ks h)

module _ (t : Tree) (bits : ℕ) (top : NamesTopGroups t bits) where
  different : AreDifferentTopGroups t (named bits)
  unfolding named
  different = some_different (names bits) t (λ k s. (top k s).2) 1 9

  named_is : (k : ℕ) → listed (named bits) k ≡ names bits k
  unfolding named
  named_is k = go (names bits k) refl
    where
      go : (b : Bool) → names bits k ≡ b → listed (named bits) k ≡ names bits k
      go true e = in_from (names bits) k 1 9 (top k e).0 (omega (arith, (top k e).1))
      go false e = absent (names bits) k (range_with_len 1 9) e ∙ sym e

-- each well formed expression has a least rest
pub least_rests : (t : Tree) → IsWellFormed t → (bits : ℕ) → NamesTopGroups t bits → (n : ℕ) × IsLeastRest t (named bits) n
least_rests t f bits top = least_rest_of t f (named bits) (different t bits top)

-- and no wide match is below it
pub no_shorter : (t : Tree) → IsWellFormed t → (bits : ℕ) → NamesTopGroups t bits → (n : ℕ) → IsLeastRest t (named bits) n
    → (w : List ℕ) (e : Groups) → WideMatch t no_groups w e → n + texts_length e (named bits) ≤ length w
no_shorter t f bits top n least w e m =
    let (found, (low, (u, d, matches, rest))) = wide_rest_of t f (named bits) (different t bits top) in
    let (other, is_rest, le) = least.floor u d matches in
    omega (arith, low w e m, rest, is_rest, le)

items_size : (ts : Trees) (bits n : ℕ) → IsWellFormed (Seq ts) → NamesTopGroups (Seq ts) bits → n ≡ min (outside bits no_bounds ts) cap
    → IsLeastSize (HasRest (Seq ts) (named bits)) n
items_size ts bits n f top = least-size (Seq ts) (named bits) (outside bits no_bounds ts) n (items_rest (names bits) ts (named bits) f (λ e.
    texts_items e ts (are_numbered (Seq ts) f) (named bits) (different (Seq ts) bits top)
    ∙ items_sum-same (listed (named bits)) (names bits) (lengths e) ts (named_is (Seq ts) bits top)))

-- the least number that the code finds
pub least-outside : (t : Tree) (ts : Trees) (bits n : ℕ) → t ≡ Seq ts → IsWellFormed t → NamesTopGroups t bits → n ≡ min (outside bits no_bounds ts) cap
    → IsLeastSize (HasRest t (named bits)) n
least-outside t ts bits n is f top found = rw is (items_size ts bits n (rw is at f) (rw is at top) found)

-- where no group is named, the least rest is the least length
module _ (t : Tree) (bits n : ℕ) (none : (k : ℕ) → names bits k ≡ true → ⊥) where
  no_texts : (e : Groups) → texts_length e (named bits) ≡ 0
  unfolding named
  no_texts e = texts_sum e (names bits) (range_with_len 1 9) ∙ sum_of-none (names bits) (lengths e) (range_with_len 1 9) none

  pub least-alone : IsLeastSize (HasLength t) n → IsLeastSize (HasRest t (named bits)) n
  least-alone h = record {
    floor = λ m (w, e, matches, rest). h.floor m (w, (e, matches), omega (arith, rest, no_texts e));
    met = λ l. let (w, (e, matches), is) = h.met l in (w, e, matches, omega (arith, is, no_texts e));
    capped = h.capped;
  }

  pub least-whole : IsLeastSize (HasRest t (named bits)) n → IsLeastSize (HasLength t) n
  least-whole h = record {
    floor = λ m (w, (e, matches), is). h.floor m (w, e, matches, omega (arith, is, no_texts e));
    met = λ l. let (w, e, matches, rest) = h.met l in (w, (e, matches), omega (arith, rest, no_texts e));
    capped = h.capped;
  }

-- no bit of 0 is set
pub none-by-zero : (bits : ℕ) → bits ≡ 0 → (k : ℕ) → names bits k ≡ true → ⊥
none-by-zero bits none k is = let clear : bit_at 0 k ≡ 0 = bit_at-zero k in false≢true (rw (none, clear) at is)
