-- What is found in one pass over a tree is what each test finds.
use Rattle.sedck_expressions.proofs.Common.{◌≡◌, ℕ, ◌+◌, ◌<◌, ◌^◌, Bool, true, false, List, [], ◌∷◌, min, Option, refl, sym, ap, subst, ◌∙◌, arith, ◌&&◌, nat_lt, sum_by, bit_or, if◌then◌else◌, bit_at, list_all, list_any, nat_tests, bit_at_or, bit_at-zero, Tree, Trees, Byte, Any, Set, Start, End, Maybe, Group, Ref, Seq, Repeat, Nil, Then, has_part, one_has_part, is_reference, is_anchor, repeats_anchor, has_misjudged_reference, empty, parts_after, references_by, misjudges_reference, misjudges_anchor, bit_and, or-false, or_assoc, or_comm, and_assoc, and-true, and-false, and_parts, sum_by-cons, bit_at_and, bit_at-pow_same, bit_at-pow_other, bit_at-lt, is_reference_to, is_repeated_reference_to, is_group, is_repeated_group, is_group_with_reference, is_group_of_nothing, may_be_empty, all_may_be_empty, references_to, all_references_to, references_to_nothing, is_misjudged_group, nameable_groups, has_misjudged_anchor, names, bit, none, and_then, own_reference, parts_of, is_misjudged_by}
use Rattle.std.proofs.Common.{◌||◌, ◌==◌}
use Rattle.std.specs.Int.Bits.{or_zero_r, and_zero_r}
use Rattle.std.proofs.Math.Nat.{add-zero, zero-add, add_assoc}
use Rattle.sedck_expressions.specs.declared.parts.Parts.{Parts}

-- ---- Bits

pub names_zero : (j : ℕ) → names 0 j ≡ false
names_zero j = rw (bit_at-zero j) refl

pub names_or : (a b j : ℕ) → names (bit_or a b) j ≡ (names a j || names b j)
names_or a b j = grind (arith, nat_tests, bit_at_or a b j, bit_at-lt a j, bit_at-lt b j)

names_and : (a b j : ℕ) → names (bit_and a b) j ≡ (names a j && names b j)
names_and a b j = grind (arith, nat_tests, bit_at_and a b j, bit_at-lt a j, bit_at-lt b j)

pub names_pow : (k j : ℕ) → names (2 ^ k) j ≡ (k == j)
names_pow k j = grind (arith, nat_tests, bit_at-pow_same j, bit_at-pow_other k j)

names_bit : (k j : ℕ) → j < 16 → names (bit k) j ≡ (k == j)
names_bit k j l = grind (arith, nat_tests, bit_at-pow_same j, bit_at-pow_other k j, bit_at-zero j)

names_if : (b : Bool) (k j : ℕ) → j < 16 → names (if b then bit k else 0) j ≡ ((k == j) && b)
names_if true k j l = names_bit k j l ∙ sym (and-true (k == j))
names_if false k j l = grind (arith, nat_tests, bit_at-zero j)

names_own : (t : Tree) (j : ℕ) → j < 16 → names (own_reference t) j ≡ is_reference_to j t
names_own (Ref k) j l = names_bit k j l
names_own t j l = names_zero j

-- what matches one byte adds nothing
pub byte_more : (p : Parts) → record p { may_be_empty = false } ≡ and_then p none
byte_more p =
    rw (
      or-false p.has_reference,
      or-false p.has_anchor,
      or-false p.repeats_anchor,
      or-false p.repeats_group,
      and-false p.may_be_empty,
      or_zero_r p.referenced,
      or_zero_r p.twice,
      and_zero_r p.referenced,
      or_zero_r p.twice,
      or_zero_r p.repeated,
      or_zero_r p.with_reference,
      or_zero_r p.of_nothing,
    ) refl

-- ---- One test

-- no tree that is the whole of what it is, nor a list of trees, passes the test
abbrev IsOfPart : (Tree → Bool) → Type 0
IsOfPart test =
    ((b : ℕ) → test (Byte b) ≡ false) × (test Any ≡ false) × ((bytes : List ℕ) → test (Set bytes) ≡ false) × (test Start ≡ false) × (test End ≡ false)
    × ((ts : Trees) → test (Seq ts) ≡ false)

-- the value of a tree's parts says whether the tree has a part that passes the test
record Finds (f : Parts → Bool) (test : Tree → Bool) : Type 0 where
  of_part : IsOfPart test
  none : f none ≡ false
  empty : f empty ≡ false
  maybe : (b : ℕ) → f (parts_of (Maybe b)) ≡ test (Maybe b)
  ref : (k : ℕ) → f (parts_of (Ref k)) ≡ test (Ref k)
  both : (a b : Parts) → f (and_then a b) ≡ (f a || f b)
  group : (k : ℕ) (body : Tree) → f (parts_of (Group k body)) ≡ (test (Group k body) || f (parts_of body))
  repeat : (body : Tree) (least : ℕ) (most : Option ℕ) → f (parts_of (Repeat body least most)) ≡ (test (Repeat body least most) || f (parts_of body))

mutual
  found : (f : Parts → Bool) (test : Tree → Bool) → Finds f test → (t : Tree) → f (parts_of t) ≡ has_part test t
  found f test law (Byte b) = law.none ∙ sym (law.of_part.0 b)
  found f test law Any = law.none ∙ sym law.of_part.1
  found f test law (Set bytes) = law.none ∙ sym (law.of_part.2 bytes)
  found f test law Start = law.empty ∙ sym law.of_part.3
  found f test law End = law.empty ∙ sym law.of_part.4
  found f test law (Maybe b) = law.maybe b
  found f test law (Group k body) = law.group k body ∙ ap (λ b. test (Group k body) || b) (found f test law body)
  found f test law (Ref k) = law.ref k
  found f test law (Seq ts) =
      found_after f test law empty ts ∙ ap (λ b. b || one_has_part test ts) law.empty ∙ sym (ap (λ b. b || one_has_part test ts) (law.of_part.5 ts))
  found f test law (Repeat body least most) = law.repeat body least most ∙ ap (λ b. test (Repeat body least most) || b) (found f test law body)

  found_after : (f : Parts → Bool) (test : Tree → Bool) → Finds f test → (p : Parts) (ts : Trees) → f (parts_after p ts) ≡ (f p || one_has_part test ts)
  found_after f test law p Nil = sym (or-false (f p))
  found_after f test law p (Then t ts) =
      found_after f test law (and_then p (parts_of t)) ts
      ∙ ap (λ b. b || one_has_part test ts) (law.both p (parts_of t) ∙ ap (λ b. f p || b) (found f test law t))
      ∙ or_assoc (f p) (has_part test t) (one_has_part test ts)

-- ---- Each of them

pub reference_found : (t : Tree) → (parts_of t).has_reference ≡ has_part is_reference t
reference_found = found (λ p. p.has_reference) is_reference (record {
  of_part = (λ _. refl, refl, λ _. refl, refl, refl, λ _. refl);
  none = refl;
  empty = refl;
  maybe = λ _. refl;
  ref = λ _. refl;
  both = λ _ _. refl;
  group = λ _ _. refl;
  repeat = λ _ _ _. refl;
})

anchor_found : (t : Tree) → (parts_of t).has_anchor ≡ has_part is_anchor t
anchor_found = found (λ p. p.has_anchor) is_anchor (record {
  of_part = (λ _. refl, refl, λ _. refl, refl, refl, λ _. refl);
  none = refl;
  empty = refl;
  maybe = λ _. refl;
  ref = λ _. refl;
  both = λ _ _. refl;
  group = λ _ _. refl;
  repeat = λ _ _ _. refl;
})

repeated_group_found : (t : Tree) → (parts_of t).repeats_group ≡ has_part is_repeated_group t
repeated_group_found = found (λ p. p.repeats_group) is_repeated_group (record {
  of_part = (λ _. refl, refl, λ _. refl, refl, refl, λ _. refl);
  none = refl;
  empty = refl;
  maybe = λ _. refl;
  ref = λ _. refl;
  both = λ _ _. refl;
  group = λ _ _. refl;
  repeat = λ body _ _. or_comm (parts_of body).repeats_group (is_group body);
})

repeated_anchor_found : (t : Tree) → (parts_of t).repeats_anchor ≡ has_part repeats_anchor t
repeated_anchor_found = found (λ p. p.repeats_anchor) repeats_anchor (record {
  of_part = (λ _. refl, refl, λ _. refl, refl, refl, λ _. refl);
  none = refl;
  empty = refl;
  maybe = λ _. refl;
  ref = λ _. refl;
  both = λ _ _. refl;
  group = λ _ _. refl;
  repeat = λ body _ _.
      or_comm (parts_of body).repeats_anchor (parts_of body).has_anchor ∙ ap (λ b. b || (parts_of body).repeats_anchor) (anchor_found body);
})

repeated_reference_found : (j : ℕ) → j < 16 → (t : Tree) → names (parts_of t).repeated j ≡ has_part (is_repeated_reference_to j) t
repeated_reference_found j l = found (λ p. names p.repeated j) (is_repeated_reference_to j) (record {
  of_part = (λ _. refl, refl, λ _. refl, refl, refl, λ _. refl);
  none = names_zero j;
  empty = names_zero j;
  maybe = λ _. names_zero j;
  ref = λ _. names_zero j;
  both = λ a b. names_or a.repeated b.repeated j;
  group = λ _ _. refl;
  repeat = λ body _ _.
      let own = parts_of body in
      names_or own.repeated (own_reference body) j
      ∙ or_comm (names own.repeated j) (names (own_reference body) j)
      ∙ ap (λ b. b || names own.repeated j) (names_own body j l);
})

referring_group_found : (j : ℕ) → j < 16 → (t : Tree) → names (parts_of t).with_reference j ≡ has_part (is_group_with_reference j) t
referring_group_found j l = found (λ p. names p.with_reference j) (is_group_with_reference j) (record {
  of_part = (λ _. refl, refl, λ _. refl, refl, refl, λ _. refl);
  none = names_zero j;
  empty = names_zero j;
  maybe = λ _. names_zero j;
  ref = λ _. names_zero j;
  both = λ a b. names_or a.with_reference b.with_reference j;
  group = λ k body.
      let own = parts_of body in
      let is = names_if own.has_reference k j l ∙ ap (λ b. (k == j) && b) (reference_found body) in
      names_or own.with_reference (if own.has_reference then bit k else 0) j
      ∙ or_comm (names own.with_reference j) (names (if own.has_reference then bit k else 0) j)
      ∙ ap (λ b. b || names own.with_reference j) is;
  repeat = λ _ _ _. refl;
})

found_reference_to : (j : ℕ) → j < 16 → (t : Tree) → names (parts_of t).referenced j ≡ has_part (is_reference_to j) t
found_reference_to j l = found (λ p. names p.referenced j) (is_reference_to j) (record {
  of_part = (λ _. refl, refl, λ _. refl, refl, refl, λ _. refl);
  none = names_zero j;
  empty = names_zero j;
  maybe = λ _. names_zero j;
  ref = λ k. names_bit k j l;
  both = λ a b. names_or a.referenced b.referenced j;
  group = λ _ _. refl;
  repeat = λ _ _ _. refl;
})

-- ---- Trees that may match nothing

mutual
  nothing_found : (t : Tree) → (parts_of t).may_be_empty ≡ may_be_empty t
  nothing_found (Byte b) = refl
  nothing_found Any = refl
  nothing_found (Set bytes) = refl
  nothing_found Start = refl
  nothing_found End = refl
  nothing_found (Maybe b) = refl
  nothing_found (Group k body) = nothing_found body
  nothing_found (Ref k) = refl
  nothing_found (Seq ts) = nothing_after empty ts
  nothing_found (Repeat body least most) = ap (λ b. (least == 0) || b) (nothing_found body)

  nothing_after : (p : Parts) (ts : Trees) → (parts_after p ts).may_be_empty ≡ (p.may_be_empty && all_may_be_empty ts)
  nothing_after p Nil = sym (and-true p.may_be_empty)
  nothing_after p (Then t ts) =
      nothing_after (and_then p (parts_of t)) ts
      ∙ ap (λ b. (p.may_be_empty && b) && all_may_be_empty ts) (nothing_found t)
      ∙ and_assoc p.may_be_empty (may_be_empty t) (all_may_be_empty ts)

empty_group_found : (j : ℕ) → j < 16 → (t : Tree) → names (parts_of t).of_nothing j ≡ has_part (is_group_of_nothing j) t
empty_group_found j l = found (λ p. names p.of_nothing j) (is_group_of_nothing j) (record {
  of_part = (λ _. refl, refl, λ _. refl, refl, refl, λ _. refl);
  none = names_zero j;
  empty = names_zero j;
  maybe = λ _. names_zero j;
  ref = λ _. names_zero j;
  both = λ a b. names_or a.of_nothing b.of_nothing j;
  group = λ k body.
      let own = parts_of body in
      let is = names_if own.may_be_empty k j l ∙ ap (λ b. (k == j) && b) (nothing_found body) in
      names_or own.of_nothing (if own.may_be_empty then bit k else 0) j
      ∙ or_comm (names own.of_nothing j) (names (if own.may_be_empty then bit k else 0) j)
      ∙ ap (λ b. b || names own.of_nothing j) is;
  repeat = λ _ _ _. refl;
})

-- ---- How many references

-- the bits say whether there is one to the group, and whether there are two
abbrev IsCounted : ℕ → Parts → ℕ → Type 0
IsCounted j p n = (names p.referenced j ≡ nat_lt 0 n) × (names p.twice j ≡ nat_lt 1 n)

counted_both : (j : ℕ) (a b : Parts) (m n : ℕ) → IsCounted j a m → IsCounted j b n → IsCounted j (and_then a b) (m + n)
counted_both j a b m n h k = (
  names_or a.referenced b.referenced j ∙ rw (h.0, k.0) (grind (arith, nat_tests)),
  names_or (bit_or a.twice b.twice) (bit_and a.referenced b.referenced) j
      ∙ rw (names_or a.twice b.twice j, names_and a.referenced b.referenced j, h.0, h.1, k.0, k.1) (grind (arith, nat_tests)),
)

counted_none : (j : ℕ) → IsCounted j none 0
counted_none j = (names_zero j, names_zero j)

mutual
  counted : (j : ℕ) → j < 16 → (t : Tree) → IsCounted j (parts_of t) (references_to j t)
  counted j l (Byte b) = counted_none j
  counted j l Any = counted_none j
  counted j l (Set bytes) = counted_none j
  counted j l Start = counted_none j
  counted j l End = counted_none j
  counted j l (Maybe b) = counted_none j
  counted j l (Group k body) = counted j l body
  counted j l (Ref k) = (names_bit k j l ∙ grind (arith, nat_tests), names_zero j ∙ grind (arith, nat_tests))
  counted j l (Seq ts) = subst (λ n. IsCounted j (parts_after empty ts) n) (zero-add (all_references_to j ts)) (counted_after j l empty 0 ts (names_zero j, names_zero j))
  counted j l (Repeat body least most) = counted j l body

  counted_after : (j : ℕ) → j < 16 → (p : Parts) (m : ℕ) (ts : Trees) → IsCounted j p m → IsCounted j (parts_after p ts) (m + all_references_to j ts)
  counted_after j l p m Nil h = subst (λ n. IsCounted j p n) (sym (add-zero m)) h
  counted_after j l p m (Then t ts) h =
      subst (λ n. IsCounted j (parts_after (and_then p (parts_of t)) ts) n) (add_assoc m (references_to j t) (all_references_to j ts))
      (counted_after j l (and_then p (parts_of t)) (m + references_to j t) ts (counted_both j p (parts_of t) m (references_to j t) h (counted j l t)))

-- ---- What is misjudged

-- all groups have a bit
abbrev HaveBits : List ℕ → Type 0
HaveBits ks = list_all (λ k. nat_lt k 16) ks ≡ true

has_bit : (k : ℕ) → nat_lt k 16 ≡ true → k < 16
has_bit k is = grind (arith, nat_tests)

misjudged_group : (t : Tree) (k : ℕ) → k < 16 → is_misjudged_by (parts_of t) k ≡ is_misjudged_group t k
misjudged_group t k l =
    let p = parts_of t in
    ap (λ b. b && (names p.with_reference k || (names p.repeated k && names p.of_nothing k))) (found_reference_to k l t)
    ∙ rw (referring_group_found k l t, repeated_reference_found k l t, empty_group_found k l t) refl

one_misjudged : (t : Tree) (ks : List ℕ) → HaveBits ks → list_any (is_misjudged_by (parts_of t)) ks ≡ list_any (is_misjudged_group t) ks
one_misjudged t [] h = refl
one_misjudged t (k ∷ ks) h =
    let both = and_parts (nat_lt k 16) (list_all (λ k. nat_lt k 16) ks) h in
    rw (misjudged_group t k (has_bit k both.0), one_misjudged t ks both.1) refl

two_of : (j : ℕ) (p : Parts) (n : ℕ) → IsCounted j p n → bit_at p.referenced j + bit_at p.twice j ≡ min n 2
two_of j p n h = grind (arith, nat_tests, h.0, h.1, bit_at-lt p.referenced j, bit_at-lt p.twice j)

counted_nothing : (t : Tree) (k : ℕ) → k < 16 → references_by (parts_of t) k ≡ min (references_to_nothing t k) 2
counted_nothing t k l = rw (empty_group_found k l t, two_of k (parts_of t) (references_to k t) (counted k l t)) (ends (has_part (is_group_of_nothing k) t))
  where
    ends : (b : Bool) → (if b then min (references_to k t) 2 else 0) ≡ min (if b then references_to k t else 0) 2
    ends true = refl
    ends false = refl

capped_sum : (t : Tree) (ks : List ℕ) → HaveBits ks → min (sum_by (references_by (parts_of t)) ks) 2 ≡ min (sum_by (references_to_nothing t) ks) 2
capped_sum t [] h = refl
capped_sum t (k ∷ ks) h =
    let both = and_parts (nat_lt k 16) (list_all (λ k. nat_lt k 16) ks) h in
    omega (
      arith,
      sum_by-cons (references_by (parts_of t)) k ks,
      sum_by-cons (references_to_nothing t) k ks,
      counted_nothing t k (has_bit k both.0),
      capped_sum t ks both.1,
    )

two_to_nothing : (t : Tree) → nat_lt 1 (sum_by (references_by (parts_of t)) nameable_groups) ≡ nat_lt 1 (sum_by (references_to_nothing t) nameable_groups)
two_to_nothing t = grind (arith, nat_tests, capped_sum t nameable_groups refl)

pub misjudges_reference_of : (t : Tree) → misjudges_reference t (parts_of t) ≡ has_misjudged_reference t
misjudges_reference_of t =
    rw (reference_found t, repeated_group_found t, one_misjudged t nameable_groups refl, two_to_nothing t) refl

pub misjudges_anchor_of : (t : Tree) → misjudges_anchor (parts_of t) ≡ has_misjudged_anchor t
misjudges_anchor_of t = rw (repeated_anchor_found t, reference_found t, anchor_found t) refl
