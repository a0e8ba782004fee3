-- What is spelled is read: the reading of a text with the shape of a tree is that tree.
use Rattle.sedck_expressions.proofs.Common.{◌≡◌, ◌≢◌, ℕ, zero, suc, ◌+◌, ◌<◌, ◌≤◌, Bool, true, false, List, [], ◌∷◌, ◌++◌, length, Option, Some, Result, Ok, refl, sym, ap, subst, ◌∙◌, arith, append_assoc, length-append, codes, nat_lt, ◌&&◌, ◌||◌, nat_tests, append-nil, begins, IsWellFormed, CountsFrom, Tree, Trees, Byte, Set, Group, Ref, Seq, Repeat, Nil, Then, groups_in, is_in, IsBracketList, Level, Whole, Inside, Position, First, is_empty, behind, SpellsByte, SpellsCount, IsRepeatable, SpellsItem, SpellsItems, SpellsTree, ◌>>=◌, Readers, begins_pair, at_end, is_repeatable, atom, with_sign, whole, Stop}
use Rattle.sedck_expressions.specs.Reading.{items, read}
use Rattle.sedck_expressions.proofs.ReadLemmas.{Reads, not_empty_more, length_some, Fit, Fits, fits_first, fits_others, allowed}
use Rattle.sedck_expressions.proofs.NumberedGroups.{range_counts, are_numbered}
use Rattle.sedck_expressions.proofs.ItemBeginnings.{bracket_front, item_front, item_some, sign_some, list_ends, no_sign, behind_repeatable}

-- where an item is read: its place in its list, and the groups before it
pub record Spot : Type 0 where
  pub level : Level
  pub place : Position
  pub deep : ℕ
  pub opened : ℕ
  pub closed : List ℕ

-- the text spells the item at this spot, before the rest of its list and what follows the item
pub record IsSpelled (unlimited : Bool) (n : ℕ) (s : Spot) (t : Tree) (text w tail : List ℕ) : Type 0 where
  pub item : SpellsItem s.level s.place text w t
  pub over : is_empty w ≡ at_end tail
  pub fit : Fits unlimited s.deep s.opened s.closed t
  pub room : length (text ++ tail) ≤ n

-- an item without a sign of repetition
abbrev IsAtom : Tree → Type 0
IsAtom (Repeat _ _ _) = ⊥
IsAtom _ = Unit {0}

repeatable_atom : (t : Tree) → IsRepeatable t → IsAtom t × (is_repeatable t ≡ true)
repeatable_atom t h = grind arith

module _ (readers : Readers) (reads : Reads readers) where
  abbrev read_atom : ℕ → Spot → List ℕ → Result (Tree × List ℕ) Stop
  read_atom n s text =
      atom readers (items readers n Inside First (s.deep + 1) (s.opened + 1) s.closed) s.level s.place s.deep s.opened s.closed text

  -- an item without its sign is read again
  abbrev AtomAgain : Tree → Type 0
  AtomAgain t = (n : ℕ) (s : Spot) (text w tail : List ℕ) → IsSpelled readers.unlimited n s t text w tail → read_atom n s (text ++ tail) ≡ Ok (t, tail)

  -- an item with its sign is read again, where no further sign follows
  abbrev ItemAgain : Tree → Type 0
  ItemAgain t = (n : ℕ) (s : Spot) (text w tail : List ℕ) → IsSpelled readers.unlimited n s t text w tail
      → (is_repeatable t ≡ true → (begins "*" tail ≡ false) × (begins_pair 123 tail ≡ false))
      → (read_atom n s (text ++ tail) >>= with_sign readers) ≡ Ok (t, tail)

  -- the items of a list are read again
  abbrev ItemsAgain : Trees → Type 0
  ItemsAgain ts = (n : ℕ) (s : Spot) (text rest : List ℕ) → SpellsItems s.level s.place text ts → at_end rest ≡ true
      → Fits readers.unlimited s.deep s.opened s.closed (Seq ts) → length (text ++ rest) < n
      → items readers n s.level s.place s.deep s.opened s.closed (text ++ rest) ≡ Ok (ts, rest)

  byte_again : (n : ℕ) (s : Spot) (text w tail : List ℕ) (c : ℕ) → SpellsByte s.place text w c → is_empty w ≡ at_end tail
      → read_atom n s (text ++ tail) ≡ Ok (Byte c, tail)
  byte_again n s text w tail c h e = grind (arith, nat_tests)

  set_again : (n : ℕ) (s : Spot) (text tail words : List ℕ) → IsBracketList text words → words ≢ [] → read_atom n s (text ++ tail) ≡ Ok (Set words, tail)
  set_again n s text tail words l m = let b = bracket_front text words l in rw (b.1, rw b.1 at (reads.bracket text words tail l m)) refl

  ref_again : (n : ℕ) (s : Spot) (text tail : List ℕ) (k : ℕ) → 1 ≤ k → k ≤ 9 → text ≡ codes "\\" ++ (48 + k) ∷ []
      → (readers.unlimited || is_in k s.closed) ≡ true → read_atom n s (text ++ tail) ≡ Ok (Ref k, tail)
  ref_again n s text tail k low high is i = grind (arith, nat_tests)

  group_again : (k : ℕ) (ts : Trees) → ItemsAgain ts → AtomAgain (Group k (Seq ts))
  group_again k ts list n s text w tail h =
      let (inside, is, spelled) = h.item in
      let cut : text ++ tail ≡ 92 ∷ 40 ∷ (inside ++ 92 ∷ 41 ∷ tail) = ap (λ x. x ++ tail) is ∙ ap (λ x. 92 ∷ 40 ∷ x) (append_assoc inside (codes "\\)") tail) in
      let can = allowed readers.unlimited (nat_lt s.deep 32 && nat_lt s.opened 99) (λ limited. let f = h.fit.1 limited in grind (arith, nat_tests, f)) in
      let first : Spot = record { level = Inside; place = First; deep = s.deep + 1; opened = s.opened + 1; closed = s.closed } in
      let fit : Fits readers.unlimited first.deep first.opened s.closed (Seq ts) = (
        h.fit.0.1,
        λ limited. let f = h.fit.1 limited in
            record { counted = f.counted.1; back = f.back; few = omega (arith, f.few); shallow = omega (arith, f.shallow) },
      ) in
      let read_inside = list n first inside (92 ∷ 41 ∷ tail) spelled refl fit (omega (arith, h.room, ap length cut)) in
      rw (cut, can, read_inside, h.fit.0.0) refl

  item_from : (t : Tree) → AtomAgain t → ItemAgain t
  item_from t a n s text w tail h clear = rw (a n s text w tail h) (no_sign_read t tail clear)
    where
      no_sign_read : (t : Tree) (tail : List ℕ) → (is_repeatable t ≡ true → (begins "*" tail ≡ false) × (begins_pair 123 tail ≡ false))
          → with_sign readers (t, tail) ≡ Ok (t, tail)
      no_sign_read t tail clear = grind (arith, clear)

  sign_read : (t : Tree) (v tail : List ℕ) (least : ℕ) (most : Option ℕ) → is_repeatable t ≡ true → SpellsCount v least most
      → (begins_pair 123 v ≡ true → readers.interval (v ++ tail) ≡ Some (least, most, tail))
      → with_sign readers (t, v ++ tail) ≡ Ok (Repeat t least most, tail)
  sign_read t v tail least most h c i = grind (arith, nat_tests)

  repeat_again : (body : Tree) (least : ℕ) (most : Option ℕ) → (IsAtom body → AtomAgain body) → ItemAgain (Repeat body least most)
  repeat_again body least most a n s text w tail h clear =
      let (u, v, is, can, inner, count) = h.item in
      let some = sign_some v least most tail count in
      let cut : text ++ tail ≡ u ++ (v ++ tail) = ap (λ x. x ++ tail) is ∙ append_assoc u v tail in
      let atomic = repeatable_atom body can in
      let read_body = a atomic.0 n s u (v ++ w) (v ++ tail) (record {
        item = inner;
        over = not_empty_more v w some.0 ∙ sym some.1;
        fit = (h.fit.0, λ limited. let f = h.fit.1 limited in record { counted = f.counted; back = f.back; few = f.few; shallow = f.shallow });
        room = omega (arith, h.room, ap length cut);
      }) in
      rw (cut, read_body) (sign_read body v tail least most atomic.1 count (λ b. reads.interval v least most tail b count))

  nil_again : ItemsAgain Nil
  unfolding items
  nil_again zero s text rest h e f l = absurd (omega arith)
  nil_again (suc n) s text rest h e f l = rw h (rw e refl)

  -- an item, and the items after it
  then_again : (t : Tree) (ts : Trees) → ItemAgain t → ItemsAgain ts → ItemsAgain (Then t ts)
  unfolding items
  then_again t ts item others zero s text rest h e f l = absurd (omega arith)
  then_again t ts item others (suc n) s text rest (u, v, is, one, others_spelled) e f l =
      let cut : text ++ rest ≡ u ++ (v ++ rest) = ap (λ x. x ++ rest) is ∙ append_assoc u v rest in
      let first = item n s u v (v ++ rest) (record {
        item = one;
        over = list_ends ts s.level (behind s.place t) v rest others_spelled e;
        fit = fits_first s.deep s.opened s.closed t ts f;
        room = omega (arith, l, ap length cut);
      }) (λ r. no_sign ts s.level v rest (subst (λ p. SpellsItems s.level p v ts) (behind_repeatable s.place t r) others_spelled) e) in
      let after : Spot = record s { place = behind s.place t; opened = s.opened + length (groups_in t); closed = s.closed ++ groups_in t } in
      let next = others n after v rest others_spelled e (fits_others s.deep s.opened s.closed t ts f)
      (omega (arith, l, ap length cut, length-append u (v ++ rest), length_some u (item_some t s.level s.place u v one))) in
      rw (cut, (item_front t s.level s.place u v (v ++ rest) one).going, first, next) refl

  mutual
    atom_again : (t : Tree) → IsAtom t → AtomAgain t
    atom_again (Byte c) _ n s text w tail h = byte_again n s text w tail c h.item h.over
    atom_again (Set words) _ n s text w tail h = set_again n s text tail words h.item.0 h.item.1
    atom_again (Ref k) _ n s text w tail h = ref_again n s text tail k h.item.0 h.item.1 h.item.2
        (allowed readers.unlimited (is_in k s.closed) (λ limited. (h.fit.1 limited).back))
    atom_again (Group k (Seq ts)) _ n s text w tail h = group_again k ts (items_again ts) n s text w tail h
    atom_again (Group k t) _ n s text w tail h = absurd h.item.2
    atom_again (Seq ts) _ n s text w tail h = absurd h.item
    atom_again (Repeat body least most) wrong n s text w tail h = absurd wrong
    atom_again t _ n s text w tail h = grind (arith, nat_tests)

    items_again : (ts : Trees) → ItemsAgain ts
    items_again Nil = nil_again
    items_again (Then (Repeat body least most) ts) = then_again (Repeat body least most) ts (repeat_again body least most (atom_again body)) (items_again ts)
    items_again (Then t ts) = then_again t ts (item_from t (atom_again t tt)) (items_again ts)

formed_fits : (t : Tree) → IsWellFormed t → Fit 0 0 [] t
formed_fits t f = record { counted = are_numbered t f; back = f.back; few = omega (arith, f.groups); shallow = omega (arith, f.nested) }

-- what is spelled is read, where it is well formed or the limits aren't kept
pub read_again : (readers : Readers) → Reads readers → (text : List ℕ) (t : Tree) → SpellsTree text t → (readers.unlimited ≡ false → IsWellFormed t)
    → read readers text ≡ Ok t
unfolding read
read_again readers reads text (Seq ts) h formed =
    ap (λ o. o >>= whole) (subst (λ x. items readers (length text + 1) Whole First 0 0 [] x ≡ Ok (ts, [])) (append-nil text)
    (items_again readers reads ts (length text + 1) (record { level = Whole; place = First; deep = 0; opened = 0; closed = [] }) text [] h.0 refl
    (subst (CountsFrom 1) (sym h.1) (range_counts 1 (length (groups_in (Seq ts)))), λ limited. formed_fits (Seq ts) (formed limited))
    (omega (arith, length-append text []))))
read_again readers reads text t h formed = absurd h.0
