-- There is one first part of a tree that is sought, at one place: the text of an item ends at one place, however the item stands in its list.
use Rattle.sedck_expressions.proofs.Common.{◌≡◌, ℕ, ◌+◌, Bool, true, false, List, ◌∷◌, ◌++◌, length, drop, Option, inl, inr, refl, sym, ap, subst, ◌∙◌, arith, append_assoc, codes, cond, false≢true, nat_tests, begins, Tree, Trees, Byte, Any, Set, Start, End, Maybe, Group, Ref, Seq, Repeat, Nil, Then, Level, Position, SpellsByte, SpellsCount, SpellsItems, SpellsList, or_parts, append_cancel_right, HasNoneSought, IsItemText, IsFirstSought, IsFirstAmong, ReFault}
use Rattle.sedck_expressions.specs.BracketReading.{bracket_at}
use Rattle.sedck_expressions.specs.IntervalReading.{interval_at}
use Rattle.sedck_expressions.proofs.Along.{second_same, third_same, star_left, interval_opens, group_cut}
use Rattle.sedck_expressions.proofs.IntervalLemmas.{interval_again}
use Rattle.sedck_expressions.proofs.WholeBracket.{bracket_again}

-- what is behind texts of the same length is the same
behind_same : (n : ℕ) (u v x y : List ℕ) → drop n (u ++ x) ≡ x → drop n (v ++ y) ≡ y → u ++ x ≡ v ++ y → x ≡ y
behind_same n u v x y a b e = sym a ∙ ap (drop n) e ∙ b

abbrev byte_width : List ℕ → ℕ
byte_width text = cond (begins "\\" text) 2 1

behind_byte : (position : Position) (u rest x : List ℕ) (c : ℕ) → SpellsByte position u rest c → drop (byte_width (u ++ x)) (u ++ x) ≡ x
behind_byte position u rest x c h = grind (arith, nat_tests)

behind_count : (u v x y : List ℕ) (least : ℕ) (most : Option ℕ) → SpellsCount u least most → SpellsCount v least most → u ++ x ≡ v ++ y → x ≡ y
behind_count u v x y least most h k e = go (begins "*" (u ++ x)) refl
  where
    go : (b : Bool) → begins "*" (u ++ x) ≡ b → x ≡ y
    go true star = behind_same 1 u v x y (star_left u x least most h star) (star_left v y least most k (sym (ap (begins "*") e) ∙ star)) e
    go false none =
        third_same (sym (interval_again u least most x (interval_opens u x least most h none) h) ∙ ap interval_at e
        ∙ interval_again v least most y (interval_opens v y least most k (sym (ap (begins "*") e) ∙ none)) k)

mutual
  -- what is behind an item's text is told by the item
  behind_item : (t : Tree) (u v x y : List ℕ) → IsItemText u t → IsItemText v t → u ++ x ≡ v ++ y → x ≡ y
  behind_item (Byte c) u v x y (_, p, r, h) (_, q, s, k) e =
      sym (behind_byte p u r x c h) ∙ ap (λ z. drop (byte_width z) z) e ∙ behind_byte q v s y c k
  behind_item Any u v x y (_, _, _, h) (_, _, _, k) e = behind_same 1 u v x y (ap (λ z. drop 1 (z ++ x)) h) (ap (λ z. drop 1 (z ++ y)) k) e
  behind_item (Set bytes) u v x y (_, _, _, h) (_, _, _, k) e =
      second_same (sym (bracket_again u bytes x h.0 h.1) ∙ ap bracket_at e ∙ bracket_again v bytes y k.0 k.1)
  behind_item Start u v x y (_, _, _, h) (_, _, _, k) e = behind_same 1 u v x y (ap (λ z. drop 1 (z ++ x)) h.2) (ap (λ z. drop 1 (z ++ y)) k.2) e
  behind_item End u v x y (_, _, _, h) (_, _, _, k) e = behind_same 1 u v x y (ap (λ z. drop 1 (z ++ x)) h.2) (ap (λ z. drop 1 (z ++ y)) k.2) e
  behind_item (Maybe b) u v x y (_, _, _, h) (_, _, _, k) e = behind_same 1 u v x y (ap (λ z. drop 1 (z ++ x)) h.1) (ap (λ z. drop 1 (z ++ y)) k.1) e
  behind_item (Ref j) u v x y (_, _, _, h) (_, _, _, k) e = behind_same 2 u v x y (ap (λ z. drop 2 (z ++ x)) h.2) (ap (λ z. drop 2 (z ++ y)) k.2) e
  behind_item (Group j body) u v x y (_, _, _, (a, is, h)) (_, _, _, (b, are, k)) e =
      ap (drop 2) (behind_list body _ _ a b (92 ∷ 41 ∷ x) (92 ∷ 41 ∷ y) h k (sym (group_cut u a x is) ∙ ap (drop 2) e ∙ group_cut v b y are))
  behind_item (Repeat body least most) u v x y (l, p, r, (a, b, is, _, h, count)) (m, q, s, (c, d, are, _, k, same)) e =
      behind_count b d x y least most count same (behind_item body a c (b ++ x) (d ++ y) (l, p, b ++ r, h) (m, q, d ++ s, k)
      (sym (append_assoc a b x) ∙ ap (λ z. z ++ x) (sym is) ∙ e ∙ ap (λ z. z ++ y) are ∙ append_assoc c d y))
  behind_item (Seq ts) u v x y (_, _, _, h) k e = absurd h

  behind_list : (t : Tree) (l m : Level) (u v x y : List ℕ) → SpellsList l u t → SpellsList m v t → u ++ x ≡ v ++ y → x ≡ y
  behind_list (Seq ts) l m u v x y h k e = behind_items ts l m _ _ u v x y h k e
  behind_list t l m u v x y h k e = absurd h

  behind_items : (ts : Trees) (l m : Level) (p q : Position) (u v x y : List ℕ) → SpellsItems l p u ts → SpellsItems m q v ts → u ++ x ≡ v ++ y → x ≡ y
  behind_items Nil l m p q u v x y h k e = sym (ap (λ z. z ++ x) h) ∙ e ∙ ap (λ z. z ++ y) k
  behind_items (Then t ts) l m p q u v x y (a, b, is, h, more) (c, d, are, k, others) e =
      behind_items ts l m _ _ b d x y more others (behind_item t a c (b ++ x) (d ++ y) (l, p, b, h) (m, q, d, k)
      (sym (append_assoc a b x) ∙ ap (λ z. z ++ x) (sym is) ∙ e ∙ ap (λ z. z ++ y) are ∙ append_assoc c d y))

-- so a text is cut in one way into an item and what follows it
one_cut : (t : Tree) (text u v x y : List ℕ) → IsItemText u t → IsItemText v t → text ≡ u ++ x → text ≡ v ++ y → (u ≡ v) × (x ≡ y)
one_cut t text u v x y h k is are =
    let same = behind_item t u v x y h k (sym is ∙ are) in
    (append_cancel_right u v x (sym is ∙ are ∙ ap (λ z. v ++ z) (sym same)), same)

one_inside : (text a b : List ℕ) → text ≡ codes "\\(" ++ a ++ codes "\\)" → text ≡ codes "\\(" ++ b ++ codes "\\)" → a ≡ b
one_inside text a b is are = append_cancel_right a b (codes "\\)") (ap (drop 2) (sym is ∙ are))

module _ (references : Bool) where
  none_inside : {anchors : Bool} (k : ℕ) (body : Tree) → HasNoneSought references anchors (Group k body) → HasNoneSought references anchors body
  none_inside k body none = record { no_reference = none.no_reference; no_anchor = none.no_anchor; no_repeated = none.no_repeated }

  none_repeated : {anchors : Bool} (body : Tree) (least : ℕ) (most : Option ℕ) → HasNoneSought references anchors (Repeat body least most)
      → HasNoneSought references true body
  none_repeated body least most none =
      let no = or_parts _ _ none.no_repeated in record { no_reference = none.no_reference; no_anchor = λ _. no.0; no_repeated = no.1 }

  none_first : {anchors : Bool} (t : Tree) (ts : Trees) → HasNoneSought references anchors (Seq (Then t ts))
      → HasNoneSought references anchors t × HasNoneSought references anchors (Seq ts)
  none_first t ts none = (
    record {
      no_reference = λ s. (or_parts _ _ (none.no_reference s)).0;
      no_anchor = λ s. (or_parts _ _ (none.no_anchor s)).0;
      no_repeated = (or_parts _ _ none.no_repeated).0;
    },
    record {
      no_reference = λ s. (or_parts _ _ (none.no_reference s)).1;
      no_anchor = λ s. (or_parts _ _ (none.no_anchor s)).1;
      no_repeated = (or_parts _ _ none.no_repeated).1;
    },
  )

  mutual
    -- where nothing is sought there is no first
    pub no_first_sought : (anchors : Bool) (t : Tree) (text : List ℕ) (offset : ℕ) (f : ReFault) → IsFirstSought references anchors t text offset f
        → HasNoneSought references anchors t → ⊥
    no_first_sought anchors (Ref k) text offset f (some, is) none = false≢true (sym (none.no_reference some))
    no_first_sought anchors (Maybe b) text offset f (some, is) none = false≢true (sym (none.no_anchor some))
    no_first_sought anchors (Group k body) text offset f (u, is, h) none = no_first_sought anchors body u (offset + 2) f h (none_inside k body none)
    no_first_sought anchors (Repeat body least most) text offset f (u, v, is, item, count, h) none =
        no_first_sought true body u offset f h (none_repeated body least most none)
    no_first_sought anchors (Seq ts) text offset f h none = no_first_among anchors ts text offset f h none
    no_first_sought anchors t text offset f h none = absurd h

    no_first_among : (anchors : Bool) (ts : Trees) (text : List ℕ) (offset : ℕ) (f : ReFault) → IsFirstAmong references anchors ts text offset f
        → HasNoneSought references anchors (Seq ts) → ⊥
    no_first_among anchors Nil text offset f h none = absurd h
    no_first_among anchors (Then t ts) text offset f (u, v, is, item, inl h) none = no_first_sought anchors t u offset f h (none_first t ts none).0
    no_first_among anchors (Then t ts) text offset f (u, v, is, item, inr (_, h)) none =
        no_first_among anchors ts v (offset + length u) f h (none_first t ts none).1

  mutual
    -- of two faults at the first part that is sought, each is the other
    pub one_first_sought : (anchors : Bool) (t : Tree) (text : List ℕ) (offset : ℕ) (f g : ReFault) → IsFirstSought references anchors t text offset f
        → IsFirstSought references anchors t text offset g → f ≡ g
    one_first_sought anchors (Ref k) text offset f g h i = h.1 ∙ sym i.1
    one_first_sought anchors (Maybe b) text offset f g h i = h.1 ∙ sym i.1
    one_first_sought anchors (Group k body) text offset f g (u, is, h) (v, are, i) =
        one_first_sought anchors body u (offset + 2) f g h
        (subst (λ z. IsFirstSought references anchors body z (offset + 2) g) (sym (one_inside text u v is are)) i)
    one_first_sought anchors (Repeat body least most) text offset f g (u, x, is, item, _, h) (v, y, are, other, _, i) =
        one_first_sought true body u offset f g h
        (subst (λ z. IsFirstSought references true body z offset g) (sym (one_cut body text u v x y item other is are).0) i)
    one_first_sought anchors (Seq ts) text offset f g h i = one_first_among anchors ts text offset f g h i
    one_first_sought anchors t text offset f g h i = absurd h

    one_first_among : (anchors : Bool) (ts : Trees) (text : List ℕ) (offset : ℕ) (f g : ReFault) → IsFirstAmong references anchors ts text offset f
        → IsFirstAmong references anchors ts text offset g → f ≡ g
    one_first_among anchors Nil text offset f g h i = absurd h
    one_first_among anchors (Then t ts) text offset f g (u, x, is, item, inl h) (v, y, are, other, inl i) =
        one_first_sought anchors t u offset f g h
        (subst (λ z. IsFirstSought references anchors t z offset g) (sym (one_cut t text u v x y item other is are).0) i)
    one_first_among anchors (Then t ts) text offset f g (u, x, is, item, inl h) (v, y, are, other, inr (none, i)) =
        absurd (no_first_sought anchors t u offset f h none)
    one_first_among anchors (Then t ts) text offset f g (u, x, is, item, inr (none, h)) (v, y, are, other, inl i) =
        absurd (no_first_sought anchors t v offset g i none)
    one_first_among anchors (Then t ts) text offset f g (u, x, is, item, inr (none, h)) (v, y, are, other, inr (_, i)) =
        let cut = one_cut t text u v x y item other is are in
        one_first_among anchors ts x (offset + length u) f g h
        (subst (λ z. IsFirstAmong references anchors ts z (offset + length u) g) (sym cut.1)
        (subst (λ z. IsFirstAmong references anchors ts y (offset + length z) g) (sym cut.0) i))
