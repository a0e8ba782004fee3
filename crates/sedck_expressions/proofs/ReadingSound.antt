-- What is spelled is sound; and what is read is spelled so, and well formed.
use Rattle.sedck_expressions.proofs.Common.{◌≡◌, ℕ, zero, suc, ◌+◌, ◌≤◌, Bool, true, false, List, [], ◌∷◌, ◌++◌, length, drop, Option, None, Result, IfOk, inl, refl, sym, ap, subst, ◌∙◌, arith, IfSome, append_assoc, ◌==◌, codes, nat_lt, ◌&&◌, ◌||◌, nat_tests, append-nil, begins, Tree, Trees, Set, Group, Seq, Repeat, Nil, Then, groups_in, groups_in_all, Level, Whole, Inside, Position, First, is_empty, behind, SpellsCount, SpellsItem, SpellsItems, SpellsList, Shape, is_listed, Readers, begins_pair, at_end, is_repeatable, atom, with_sign, whole, eqb-true, ok_or, BadInterval, DoubleRepeat, IsSound, AreSound, AreBounds, Stop, tree_before, repeat_before, plain, closed_by, escaped, after_backslash, Lister}
use Rattle.sedck_expressions.specs.Reading.{items, read}
use Rattle.sedck_expressions.proofs.ReadLemmas.{bind_holds, ok_then, cond_holds, ok_or_holds, pair_text, Takes, IsListBefore, IsIntervalBefore, star_text, not_empty_more, repeatable_of, Fit, fit_all}
use Rattle.sedck_expressions.proofs.ItemBeginnings.{sign_some, list_ends}
use Rattle.sedck_expressions.proofs.NumberedGroups.{counts_range}

-- ---- What is spelled is sound

are_bounds : (text : List ℕ) (least : ℕ) (most : Option ℕ) → SpellsCount text least most → AreBounds least most
are_bounds text least most count = grind arith

mutual
  item_is_sound : (t : Tree) (level : Level) (place : Position) (text rest : List ℕ) → SpellsItem level place text rest t → IsSound t
  item_is_sound (Set bytes) level place text rest h = (h.1, is_listed h.0.complement h.0.elements, h.0.set)
  item_is_sound (Group k body) level place text rest h = list_is_sound body Inside h.0 h.2
  item_is_sound (Repeat body least most) level place text rest h = (are_bounds h.1 least most h.5, item_is_sound body level place h.0 (h.1 ++ rest) h.4)
  item_is_sound (Seq ts) level place text rest h = absurd h
  item_is_sound t level place text rest h = tt

  items_are_sound : (ts : Trees) (level : Level) (place : Position) (text : List ℕ) → SpellsItems level place text ts → AreSound ts
  items_are_sound Nil level place text h = tt
  items_are_sound (Then t ts) level place text h = (item_is_sound t level place h.0 h.1 h.3, items_are_sound ts level (behind place t) h.1 h.4)

  pub list_is_sound : (t : Tree) (level : Level) (text : List ℕ) → SpellsList level text t → IsSound t
  list_is_sound (Seq ts) level text h = items_are_sound ts level First text h
  list_is_sound t level text h = absurd h

-- ---- What is read is spelled so

-- an item was read from the start of the text
pub record ItemRead (level : Level) (place : Position) (deep opened : ℕ) (closed text : List ℕ) (x : Tree × List ℕ) : Type 0 where
  pub front : List ℕ
  pub cut : text ≡ front ++ x.1
  -- whatever is left of the list, if something is left of it exactly where the list is not over
  pub spells : (w : List ℕ) → is_empty w ≡ at_end x.1 → SpellsItem level place front w x.0
  pub fit : Fit deep opened closed x.0

-- the items up to the end of the list were read
pub record ListRead (level : Level) (place : Position) (deep opened : ℕ) (closed text : List ℕ) (x : Trees × List ℕ) : Type 0 where
  pub front : List ℕ
  pub cut : text ≡ front ++ x.1
  pub over : at_end x.1 ≡ true
  pub spells : SpellsItems level place front x.0
  pub fit : Fit deep opened closed (Seq x.0)

module _ (level : Level) (place : Position) (deep opened : ℕ) (closed : List ℕ) (few : opened ≤ 99) (shallow : deep ≤ 32) where
  abbrev IsItem : List ℕ → Tree × List ℕ → Type 0
  IsItem = ItemRead level place deep opened closed

  -- the lists inside a group
  abbrev pub ReadsInside : (List ℕ → Result (Trees × List ℕ) Stop) → Type 0
  ReadsInside inner = deep + 1 ≤ 32 → opened + 1 ≤ 99 → (text : List ℕ) → IfOk (inner text) (ListRead Inside First (deep + 1) (opened + 1) closed text)

  abbrev IsPlain : Bool → ℕ → Tree → Type 0
  IsPlain last b t = Fit deep opened closed t × ((w : List ℕ) → is_empty w ≡ last → SpellsItem level place (b ∷ []) w t)

  plain_read : (last : Bool) (b : ℕ) → (b == 92) ≡ false → (b == 91) ≡ false → (b == 46) ≡ false → IfSome (plain level place last b) (IsPlain last b)
  plain_read last b h0 h1 h2 = grind (arith, nat_tests)

  escaped_read : (readers : Readers) → readers.unlimited ≡ false → (inner : List ℕ → Result (Trees × List ℕ) Stop) (b : ℕ) (text : List ℕ) → (b == 40) ≡ false
      → IfOk (escaped readers inner place deep opened closed b text)
      (λ x. Fit deep opened closed x.0 × (x.1 ≡ text) × ((w : List ℕ) → SpellsItem level place (92 ∷ b ∷ []) w x.0))
  escaped_read readers limited inner b text h = grind (arith, nat_tests)

  -- the inside of a group, and its `\)`
  group_sound : (text : List ℕ) (x : Trees × List ℕ) → deep + 1 ≤ 32 → opened + 1 ≤ 99
      → ListRead Inside First (deep + 1) (opened + 1) closed text x → IfOk (closed_by (opened + 1) (92 ∷ 40 ∷ text) x) (IsItem (92 ∷ 40 ∷ text))
  group_sound text (ts, rest) d o r = cond_holds (begins_pair 41 rest) _ _ _ (λ s. record {
    front = codes "\\(" ++ r.front ++ codes "\\)";
    cut = ap (λ x. 92 ∷ 40 ∷ x) (r.cut ∙ ap (λ x. r.front ++ x) (pair_text 41 rest s) ∙ sym (append_assoc r.front (codes "\\)") (drop 2 rest)));
    spells = λ w e. (r.front, refl, r.spells);
    fit = let fit = r.fit in grind (arith, fit);
  }) (λ _. tt)

  backslash_sound : (readers : Readers) → readers.unlimited ≡ false → (inner : List ℕ → Result (Trees × List ℕ) Stop) (text : List ℕ) → ReadsInside inner
      → IfOk (after_backslash readers inner place deep opened closed text) (IsItem (92 ∷ text))
  backslash_sound readers limited inner [] list = tt
  backslash_sound readers limited inner (b ∷ text) list = go (b == 40) refl
    where
      go : (x : Bool) → (b == 40) ≡ x → IfOk (escaped readers inner place deep opened closed b text) (IsItem (92 ∷ b ∷ text))
      go true s = rw (eqb-true b 40 s) (cond_holds (readers.unlimited || (nat_lt deep 32 && nat_lt opened 99)) _ _ _ (λ m.
          let both : (deep + 1 ≤ 32) × (opened + 1 ≤ 99) = grind (arith, nat_tests) in
          bind_holds _ _ _ _ (list both.0 both.1 text) (λ x r. group_sound text x both.0 both.1 r)) (λ _. tt))
      go false s = ok_then (escaped readers inner place deep opened closed b text) (escaped_read readers limited inner b text s)
          (λ x h. record { front = 92 ∷ b ∷ []; cut = ap (λ r. 92 ∷ b ∷ r) (sym h.1); spells = λ w _. h.2 w; fit = h.0 })

  pub atom_sound : (readers : Readers) → Takes readers → (inner : List ℕ → Result (Trees × List ℕ) Stop) (text : List ℕ) → ReadsInside inner
      → IfOk (atom readers inner level place deep opened closed text) (IsItem text)
  atom_sound readers takes inner [] list = tt
  atom_sound readers takes inner (b ∷ text) list =
      cond_holds (b == 92) _ _ _ (λ s. rw (eqb-true b 92 s) (backslash_sound readers takes.limited inner text list))
      (λ s92. cond_holds (b == 91) _ _ _ (λ _. bind_holds _ _ _ (IsListBefore (b ∷ text)) (takes.bracket (b ∷ text)) (λ x (u, cut, l, member). record {
        front = u;
        cut = cut;
        spells = λ w _. (l, member);
        fit = omega arith;
      }))
      (λ s91. cond_holds (b == 46) _ _ _
      (λ s. record { front = b ∷ []; cut = refl; spells = λ w _. ap (λ x. x ∷ []) (eqb-true b 46 s); fit = omega arith })
      (λ s46. bind_holds (ok_or (plain level place (at_end text) b) (DoubleRepeat, b ∷ text)) (tree_before text) _ (IsPlain (at_end text) b)
      (ok_or_holds (plain level place (at_end text) b) _ _ (plain_read (at_end text) b s92 s91 s46))
      (λ t h. record { front = b ∷ []; cut = refl; spells = h.1; fit = h.0 }))))

  -- the item with a sign of repetition after it
  repeated_read : (text : List ℕ) (t : Tree) (rest sign after : List ℕ) (least : ℕ) (most : Option ℕ) → IsItem text (t, rest) → is_repeatable t ≡ true
      → rest ≡ sign ++ after → SpellsCount sign least most → IsItem text (Repeat t least most, after)
  repeated_read text t rest sign after least most r can cut count = let some = sign_some sign least most after count in record {
    front = r.front ++ sign;
    cut = r.cut ∙ ap (λ x. r.front ++ x) cut ∙ sym (append_assoc r.front sign after);
    spells = λ w e. (r.front, sign, refl, repeatable_of t can, r.spells (sign ++ w) (not_empty_more sign w some.0 ∙ sym (ap at_end cut ∙ some.1)), count);
    fit = record { counted = r.fit.counted; back = r.fit.back; few = r.fit.few; shallow = r.fit.shallow };
  }

  pub sign_sound : (readers : Readers) → Takes readers → (text : List ℕ) (x : Tree × List ℕ) → IsItem text x → IfOk (with_sign readers x) (IsItem text)
  sign_sound readers takes text (t, rest) r =
      cond_holds (is_repeatable t) _ _ _ (λ can. cond_holds (begins "*" rest) _ _ _
      (λ s. repeated_read text t rest (codes "*") (drop 1 rest) 0 None r can (star_text rest s) (inl (refl, refl)))
      (λ _. cond_holds (begins_pair 123 rest) _ _ _
      (λ _. bind_holds (ok_or (readers.interval rest) (BadInterval, rest)) (repeat_before t) _ (IsIntervalBefore rest)
      (ok_or_holds (readers.interval rest) _ _ (takes.interval rest)) (λ x h. repeated_read text t rest h.0 x.2 x.0 x.1 r can h.1 h.2)) (λ _. r))) (λ _. r)

  -- an item, and the items after it
  pub list_read : (text : List ℕ) (x : Tree × List ℕ) (y : Trees × List ℕ) → IsItem text x
      → ListRead level (behind place x.0) deep (opened + length (groups_in x.0)) (closed ++ groups_in x.0) x.1 y
      → ListRead level place deep opened closed text (Then x.0 y.0, y.1)
  list_read text (t, rest) (ts, end) i l = record {
    front = i.front ++ l.front;
    cut = i.cut ∙ ap (λ x. i.front ++ x) l.cut ∙ sym (append_assoc i.front l.front end);
    over = l.over;
    spells = (
      i.front,
      l.front,
      refl,
      i.spells l.front (list_ends ts level (behind place t) l.front end l.spells l.over ∙ ap at_end (sym l.cut)),
      l.spells,
    );
    fit = fit_all deep opened closed t ts i.fit l.fit;
  }

-- a lister gives what is spelled so
abbrev pub IsSoundLister : Lister → Type 0
IsSoundLister list = (level : Level) (place : Position) (deep opened : ℕ) (closed text : List ℕ) → opened ≤ 99 → deep ≤ 32
    → IfOk (list level place deep opened closed text) (ListRead level place deep opened closed text)

pub items_sound : (readers : Readers) → Takes readers → (n : ℕ) → IsSoundLister (items readers n)
unfolding items
items_sound readers takes zero level place deep opened closed text few shallow = tt
items_sound readers takes (suc n) level place deep opened closed text few shallow =
    cond_holds (at_end text) _ _ _ (λ s. record { front = []; cut = refl; over = s; spells = refl; fit = omega arith })
    (λ _. bind_holds _ _ _ (IsItem level place deep opened closed few shallow text) (bind_holds _ _ _ _
    (atom_sound level place deep opened closed few shallow readers takes (items readers n Inside First (deep + 1) (opened + 1) closed) text
    (λ d o after. items_sound readers takes n Inside First (deep + 1) (opened + 1) closed after o d))
    (λ x i. sign_sound level place deep opened closed few shallow readers takes text x i))
    (λ x i. bind_holds _ _ _ _
    (items_sound readers takes n level (behind place x.0) deep (opened + length (groups_in x.0)) (closed ++ groups_in x.0) x.1 i.fit.few shallow)
    (λ y l. list_read level place deep opened closed few shallow text x y i l)))

whole_sound : (text : List ℕ) (x : Trees × List ℕ) → ListRead Whole First 0 0 [] text x → IfOk (whole x) (λ t. Shape text t)
whole_sound text (ts, []) l = (
  subst (λ u. SpellsItems Whole First u ts) (sym (l.cut ∙ append-nil l.front)) l.spells,
  record {
    numbered = counts_range 1 (groups_in_all ts) l.fit.counted;
    back = l.fit.back;
    sound = items_are_sound ts Whole First l.front l.spells;
    groups = omega (arith, l.fit.few);
    nested = omega (arith, l.fit.shallow);
  },
)
whole_sound text (ts, _ ∷ _) l = tt

-- what is read has the shape
pub read_sound : (readers : Readers) → Takes readers → (text : List ℕ) → IfOk (read readers text) (λ t. Shape text t)
unfolding read
read_sound readers takes text =
    bind_holds _ _ _ _ (items_sound readers takes (length text + 1) Whole First 0 0 [] text (omega arith) (omega arith)) (λ x l. whole_sound text x l)
