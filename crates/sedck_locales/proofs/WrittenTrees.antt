-- The lists of an expression's text are those of its tree, and two texts with the same lists have one tree of them.
use Rattle.std.proofs.Common.{◌≡◌, ◌≢◌, ℕ, true, false, eqb, ◌+◌, List, [], ◌∷◌, ◌++◌, Option, Some, None, refl, ap, sym, ◌∙◌, subst, inl, inr, arith, append_assoc, append-nil}
use Rattle.std.specs.Prelude.{Result, Ok, codes}
use Rattle.std.specs.List.{list_all}
use Rattle.std.proofs.lemmas.Bool.{and_parts}
use Rattle.std.proofs.lemmas.Bool.Decides.{nat_tests}
use Rattle.std.proofs.lemmas.List.{append_cancel_right}
use Rattle.sedck_text.specs.Classes.{is_digit}
use Rattle.sedck_expressions.specs.Tree.{Tree, Trees, Byte, Any, Set, Start, End, Maybe, Group, Ref, Seq, Repeat, Nil, Then}
use Rattle.sedck_expressions.specs.Shape.{Level, Position, First, behind, SpellsByte, IsNumber, SpellsCount, SpellsItem, SpellsItems, SpellsList, Inside, Whole, Shape}
use Rattle.sedck_expressions.specs.Brackets.{IsBracketList}
use Rattle.sedck_expressions.specs.BracketReading.{bracket_at}
use Rattle.sedck_expressions.specs.WellFormed.{IsSound, AreSound}
use Rattle.sedck_expressions.proofs.WholeBracket.{bracket_again}
use Rattle.sedck_plain.specs.WrittenLists.{lists_from, expression_lists}
use Rattle.sedck_plain.specs.declared.written.Position.TheVariants.{Outside}
use Rattle.sedck_locales.specs.Written.{written_item, written_items, written_list, written, lists_in, lists_in_all}
use Rattle.sedck_locales.proofs.ListWalk.{pass_list}

-- this text of an expression has no list
abbrev pub HasNone : List ℕ → Type 0
HasNone u = (v : List ℕ) → lists_from Outside (u ++ v) ≡ lists_from Outside v

none_more : (u w : List ℕ) → HasNone u → HasNone w → HasNone (u ++ w)
none_more u w one two v = ap (lists_from Outside) (append_assoc u w v) ∙ one (w ++ v) ∙ two v

none_byte : (c : ℕ) → c ≢ 92 → c ≢ 91 → HasNone (c ∷ [])
none_byte c n m v = let i : eqb c 92 ≡ false = grind (arith, nat_tests, n) in let j : eqb c 91 ≡ false = grind (arith, nat_tests, m) in rw (i, j) refl

none_escaped : (c : ℕ) → HasNone (92 ∷ c ∷ [])
none_escaped c v = refl

none_digits : (digits : List ℕ) → list_all is_digit digits ≡ true → HasNone digits
none_digits [] h = λ v. refl
none_digits (d ∷ digits) h =
    let both = and_parts (is_digit d) (list_all is_digit digits) h in
    none_more (d ∷ []) digits (none_byte d (λ e. grind (arith, nat_tests, both.0, e)) (λ e. grind (arith, nat_tests, both.0, e))) (none_digits digits both.1)

none_written_byte : (position : Position) (text rest : List ℕ) (c : ℕ) → SpellsByte position text rest c → HasNone text
none_written_byte position text rest c (inl (is, itself)) =
    subst HasNone (sym is) (none_byte c (λ e. grind (arith, nat_tests, itself, e)) (λ e. grind (arith, nat_tests, itself, e)))
none_written_byte position text rest c (inr (inl (is, h))) = subst HasNone (sym is) (none_escaped c)
none_written_byte position text rest c (inr (inr (inl (is, h)))) = subst HasNone (sym is) (none_escaped 110)
none_written_byte position text rest c (inr (inr (inr (is, h)))) = subst HasNone (sym is) (none_escaped 116)

none_bounds : (digits more : List ℕ) (n : ℕ) → IsNumber digits n → HasNone more → HasNone (92 ∷ 123 ∷ digits ++ more)
none_bounds digits more n number rest = none_more (92 ∷ 123 ∷ []) (digits ++ more) (none_escaped 123) (none_more digits more (none_digits digits number.1) rest)

none_close : HasNone (92 ∷ 125 ∷ [])
none_close = none_escaped 125

none_comma : (u : List ℕ) → HasNone u → HasNone (44 ∷ u)
none_comma u h = none_more (44 ∷ []) u (none_byte 44 (λ e. omega arith) (λ e. omega arith)) h

none_count : (text : List ℕ) (least : ℕ) (most : Option ℕ) → SpellsCount text least most → HasNone text
none_count text least None (inl (is, zero)) = subst HasNone (sym is) (none_byte 42 (λ e. omega arith) (λ e. omega arith))
none_count text least None (inr (m, number, is)) =
    subst HasNone (sym is) (none_bounds m (44 ∷ 92 ∷ 125 ∷ []) least number (none_comma (92 ∷ 125 ∷ []) none_close))
none_count text least (Some most) (inl (m, number, same, is)) = subst HasNone (sym is) (none_bounds m (92 ∷ 125 ∷ []) least number none_close)
none_count text least (Some most) (inr (m, n, one, two, less, is)) =
    subst HasNone (sym is) (none_more (codes "\\{" ++ m ++ codes "," ++ n) (codes "\\}")
    (none_more (codes "\\{" ++ m ++ codes ",") n
    (none_bounds m (codes ",") least one (none_byte 44 (λ e. omega arith) (λ e. omega arith))) (none_digits n two.1)) none_close)

none_reference : (text : List ℕ) (k : ℕ) → text ≡ 92 ∷ (48 + k) ∷ [] → HasNone text
none_reference text k is = subst HasNone (sym is) (none_escaped (48 + k))

none_anchor : (text : List ℕ) (c : ℕ) → text ≡ c ∷ [] → c ≢ 92 → c ≢ 91 → HasNone text
none_anchor text c is n m = subst HasNone (sym is) (none_byte c n m)

-- ---- The lists of the text

mutual
  walk_item : (t : Tree) (level : Level) (position : Position) (text rest : List ℕ) (here : SpellsItem level position text rest t) (v : List ℕ)
      → lists_from Outside (text ++ v) ≡ lists_in (written_item t level position text rest here) ++ lists_from Outside v
  walk_item (Byte c) level position text rest here v = none_written_byte position text rest c here v
  walk_item Any level position text rest here v = none_anchor text 46 here (λ e. omega arith) (λ e. omega arith) v
  walk_item (Set bytes) level position text rest here v = pass_list text bytes here.0 v
  walk_item Start level position text rest here v = none_anchor text 94 here.2 (λ e. omega arith) (λ e. omega arith) v
  walk_item End level position text rest here v = none_anchor text 36 here.2 (λ e. omega arith) (λ e. omega arith) v
  walk_item (Maybe c) level position text rest (inside, is, inl (first, e)) v = none_anchor text c is (λ f. omega (arith, e, f)) (λ f. omega (arith, e, f)) v
  walk_item (Maybe c) level position text rest (inside, is, inr (last, e)) v = none_anchor text c is (λ f. omega (arith, e, f)) (λ f. omega (arith, e, f)) v
  walk_item (Group k body) level position text rest (inside, is, more) v =
      ap (λ t. lists_from Outside (t ++ v)) is ∙ ap (lists_from Outside) (append_assoc inside (92 ∷ 41 ∷ []) v)
      ∙ walk_list body _ inside more (92 ∷ 41 ∷ v)
  walk_item (Ref k) level position text rest here v = none_reference text k here.2 v
  walk_item (Seq ts) level position text rest here v = absurd here
  walk_item (Repeat body least most) level position text rest (u, w, is, can, one, count) v =
      ap (λ t. lists_from Outside (t ++ v)) is ∙ ap (lists_from Outside) (append_assoc u w v) ∙ walk_item body level position u (w ++ rest) one (w ++ v)
      ∙ ap (λ t. lists_in (written_item body level position u (w ++ rest) one) ++ t) (none_count w least most count v)

  walk_items : (ts : Trees) (level : Level) (position : Position) (text : List ℕ) (here : SpellsItems level position text ts) (v : List ℕ)
      → lists_from Outside (text ++ v) ≡ lists_in_all (written_items ts level position text here) ++ lists_from Outside v
  walk_items Nil level position text here v = ap (λ t. lists_from Outside (t ++ v)) here
  walk_items (Then t ts) level position text (u, w, is, one, more) v =
      ap (λ t. lists_from Outside (t ++ v)) is ∙ ap (lists_from Outside) (append_assoc u w v) ∙ walk_item t level position u w one (w ++ v)
      ∙ ap (λ s. lists_in (written_item t level position u w one) ++ s) (walk_items ts level (behind position t) w more v)
      ∙ sym (append_assoc (lists_in (written_item t level position u w one)) (lists_in_all (written_items ts level (behind position t) w more)) (lists_from Outside v))

  walk_list : (t : Tree) (level : Level) (text : List ℕ) (here : SpellsList level text t) (v : List ℕ)
      → lists_from Outside (text ++ v) ≡ lists_in (written_list t level text here) ++ lists_from Outside v
  walk_list (Seq ts) level text here v = walk_items ts level First text here v
  walk_list _ level text here v = absurd here

pub lists_found : (text : List ℕ) (t : Tree) (level : Level) (here : SpellsList level text t) → lists_from Outside text ≡ lists_in (written_list t level text here)
lists_found text t level here = sym (ap (lists_from Outside) (append-nil text)) ∙ walk_list t level text here [] ∙ append-nil _

-- ---- One tree

pub one_ok : {A E : Type 0} {a b : A} → ◌≡◌ {A = Result A E} (Ok a) (Ok b) → a ≡ b
one_ok e = cc e

-- two lists of the same bytes, each before another text
one_list : (text other bytes x y : List ℕ) → IsBracketList text bytes → IsBracketList other bytes → bytes ≢ [] → text ++ x ≡ other ++ y
    → (text ≡ other) × (x ≡ y)
one_list text other bytes x y one two some same =
    let read = sym (bracket_again text bytes x one some) ∙ ap bracket_at same ∙ bracket_again other bytes y two some in
    let rest = ap (λ z. z.1) (one_ok read) in
    (append_cancel_right text other x (same ∙ ap (λ t. other ++ t) (sym rest)), rest)

mutual
  one_item : (t : Tree) (level level' : Level) (position position' : Position) (text rest other rest' x y : List ℕ) → IsSound t
      → (here : SpellsItem level position text rest t) (there : SpellsItem level' position' other rest' t)
      → lists_in (written_item t level position text rest here) ++ x ≡ lists_in (written_item t level' position' other rest' there) ++ y
      → (written_item t level position text rest here ≡ written_item t level' position' other rest' there) × (x ≡ y)
  one_item (Byte c) level level' position position' text rest other rest' x y sound here there same = (refl, same)
  one_item Any level level' position position' text rest other rest' x y sound here there same = (refl, same)
  one_item (Set bytes) level level' position position' text rest other rest' x y sound here there same =
      let one = one_list text other bytes x y here.0 there.0 here.1 same in (ap Set one.0, one.1)
  one_item Start level level' position position' text rest other rest' x y sound here there same = (refl, same)
  one_item End level level' position position' text rest other rest' x y sound here there same = (refl, same)
  one_item (Maybe c) level level' position position' text rest other rest' x y sound here there same = (refl, same)
  one_item (Group k body) level level' position position' text rest other rest' x y sound here there same =
      let one = one_spelling body Inside Inside here.0 there.0 x y sound here.2 there.2 same in (ap (Group k) one.0, one.1)
  one_item (Ref k) level level' position position' text rest other rest' x y sound here there same = (refl, same)
  one_item (Seq ts) level level' position position' text rest other rest' x y sound here there same = absurd here
  one_item (Repeat body least most) level level' position position' text rest other rest' x y sound here there same =
      let one = one_item body level level' position position' here.0 (here.1 ++ rest) there.0 (there.1 ++ rest') x y sound.1 here.4 there.4 same in
      (ap (λ t. Repeat t least most) one.0, one.1)

  one_items : (ts : Trees) (level level' : Level) (position position' : Position) (text other x y : List ℕ) → AreSound ts
      → (here : SpellsItems level position text ts) (there : SpellsItems level' position' other ts)
      → lists_in_all (written_items ts level position text here) ++ x ≡ lists_in_all (written_items ts level' position' other there) ++ y
      → (written_items ts level position text here ≡ written_items ts level' position' other there) × (x ≡ y)
  one_items Nil level level' position position' text other x y sound here there same = (refl, same)
  one_items (Then t ts) level level' position position' text other x y sound here there same =
      let first = lists_in (written_item t level position here.0 here.1 here.3) in
      let second = lists_in (written_item t level' position' there.0 there.1 there.3) in
      let more = lists_in_all (written_items ts level (behind position t) here.1 here.4) in
      let others = lists_in_all (written_items ts level' (behind position' t) there.1 there.4) in
      let one = one_item t level level' position position' here.0 here.1 there.0 there.1 (more ++ x) (others ++ y) sound.0 here.3 there.3
      (sym (append_assoc first more x) ∙ same ∙ append_assoc second others y) in
      let two = one_items ts level level' (behind position t) (behind position' t) here.1 there.1 x y sound.1 here.4 there.4 one.1 in
      (cc (one.0, two.0), two.1)

  one_spelling : (t : Tree) (level level' : Level) (text other x y : List ℕ) → IsSound t
      → (here : SpellsList level text t) (there : SpellsList level' other t)
      → lists_in (written_list t level text here) ++ x ≡ lists_in (written_list t level' other there) ++ y
      → (written_list t level text here ≡ written_list t level' other there) × (x ≡ y)
  one_spelling (Seq ts) level level' text other x y sound here there same =
      let one = one_items ts level level' First First text other x y sound here there same in (ap Seq one.0, one.1)
  one_spelling _ level level' text other x y sound here there same = absurd here

-- two texts of one expression with the same lists
pub written_alike : (text other : List ℕ) (t : Tree) (one : Shape text t) (two : Shape other t) → expression_lists text ≡ expression_lists other
    → written text t one ≡ written other t two
written_alike text other t one two same =
    let lists = append_cancel_right (lists_from Outside text) (lists_from Outside other) (10 ∷ []) same in
    let both = sym (lists_found text t Whole one.0) ∙ lists ∙ lists_found other t Whole two.0 in
    (one_spelling t Whole Whole text other [] [] one.1.sound one.0 two.0 (append-nil _ ∙ both ∙ sym (append-nil _))).0
