-- What is read as a bracket list is written so.
use Rattle.sedck_expressions.proofs.Common.{◌≡◌, ◌≢◌, ℕ, suc, zero, Bool, true, false, List, [], ◌∷◌, ◌++◌, length, drop, inl, inr, refl, sym, ap, ◌∙◌, subst, arith, append_assoc, length-append, ◌&&◌, ◌⊎◌, not, nat_eq, nat_le, codes, Contains, starts_with, false≢true, nat_tests, begins, classes, Element, One, Members, is_bare, WritesByte, begins_range, WritesElement, WritesElements, ◌>>=◌, symbol_at, byte_at, ranges, no_range, class_from, one, range_or_one, element_at, IfSome, Result, Ok, Err, IfOk, IfSome_then, Decides-eqb, Contains-get_or, Contains-append_right, IsInPlace, ok_or, missing_end, whole_class_at, last_dash_at, in_list, others, Flaw}
use Rattle.std.proofs.lemmas.Slice.Eq.{starts_is}
use Rattle.sedck_expressions.specs.BracketReading.{elements_at}
use Rattle.sedck_expressions.proofs.ReadLemmas.{bind_holds, ok_then, cond_holds, some_if, ok_or_holds, and_left, nat_le_of}
use Rattle.sedck_expressions.proofs.BracketLemmas.{one_front, plain_before, writes_alike, is_closing_front, range_before}

-- ---- One byte

-- a byte before the mark and a closing bracket
abbrev IsMarked : ℕ → List ℕ → ℕ × List ℕ → Type 0
IsMarked mark text x = (text ≡ x.0 ∷ mark ∷ 93 ∷ x.1) × (x.0 ≢ mark)

symbol_takes : (mark : ℕ) (text : List ℕ) → IfOk (symbol_at mark text) (IsMarked mark text)
symbol_takes mark text = grind (arith, nat_tests)

-- a byte is written at the start of the text, before the rest
abbrev pub IsByteBefore : List ℕ → ℕ × List ℕ → Type 0
IsByteBefore text x = (u : List ℕ) × (text ≡ u ++ x.1) × WritesByte u x.1 x.0

-- the same by the text itself
abbrev IsByteFront : List ℕ → ℕ × List ℕ → Type 0
IsByteFront text x = ((text ≡ x.0 ∷ x.1) × (is_bare x.0 x.1 ≡ true)) ⊎ (((text ≡ 92 ∷ 110 ∷ x.1) × (x.0 ≡ 10))
    ⊎ (((text ≡ 92 ∷ 92 ∷ x.1) × (x.0 ≡ 92)) ⊎ ((text ≡ 91 ∷ 46 ∷ x.0 ∷ 46 ∷ 93 ∷ x.1) × (x.0 ≢ 46))))

byte_front_takes : (text : List ℕ) → IfOk (byte_at text) (IsByteFront text)
byte_front_takes text = grind (arith, nat_tests)

pub byte_takes : (text : List ℕ) → IfOk (byte_at text) (IsByteBefore text)
byte_takes text = ok_then (byte_at text) (byte_front_takes text) written
  where
    written : (x : ℕ × List ℕ) → IsByteFront text x → IsByteBefore text x
    written x (inl h) = (x.0 ∷ [], h.0, inl (refl, h.1))
    written x (inr (inl h)) = (codes "\\n", h.0, inr (inl (refl, h.1)))
    written x (inr (inr (inl h))) = (codes "\\\\", h.0, inr (inr (inl (refl, h.1))))
    written x (inr (inr (inr h))) = (codes "[." ++ x.0 ∷ codes ".]", h.0, inr (inr (inr (refl, h.1))))

-- what is written before a text is written before the part of it up to the closing bracket
writes_before : (u v rest : List ℕ) (c : ℕ) → WritesByte u (v ++ 93 ∷ rest) c → WritesByte u v c
writes_before u v rest c h = writes_alike u (v ++ 93 ∷ rest) v c (sym (plain_before c v rest)) h

-- ---- One element

-- the element is written at the start of the text, whatever elements come up to the closing bracket
abbrev pub IsElementBefore : Bool → List ℕ → Element × List ℕ → Type 0
IsElementBefore first text x = (u : List ℕ) × (text ≡ u ++ x.1)
    × ((v rest : List ℕ) → x.1 ≡ v ++ 93 ∷ rest → is_closing_front v ≡ false → WritesElement first u v x.0)

range_ends : (v rest after : List ℕ) → after ≡ v ++ 93 ∷ rest → is_closing_front v ≡ false → ranges after ≡ false → begins_range v ≡ false
range_ends v rest after e h k = range_before v rest h (sym (ap ranges e) ∙ k)

-- the name and the end of one of these classes are before the rest
abbrev IsClassBefore : List (List ℕ × (ℕ → Bool)) → List ℕ → Element × List ℕ → Type 0
IsClassBefore cs text x = (c : List ℕ × (ℕ → Bool)) × (x.0 ≡ Members c) × Contains cs c × (text ≡ (c.0 ++ codes ":]") ++ x.1)

class_takes : (cs : List (List ℕ × (ℕ → Bool))) (text : List ℕ) → IfSome (class_from cs text) (IsClassBefore cs text)
class_takes [] text = tt
class_takes (c ∷ cs) text =
    let name = c.0 ++ codes ":]" in
    let cut = (starts_is Decides-eqb text name (starts_with nat_eq text name) refl).0 in
    let size = length-append c.0 (codes ":]") in
    some_if (starts_with nat_eq text name) _ _ _ (λ h. (c, refl, Contains-get_or (c ∷ cs) 0 c (omega arith), cut h ∙ ap (λ n. name ++ drop n text) size))
    (λ _. IfSome_then (class_from cs text) (class_takes cs text) (λ x (d, is, listed, more). (d, is, Contains-append_right (c ∷ []) cs d listed, more)))

abbrev pub IsFirstBracket : Bool → List ℕ → Type 0
IsFirstBracket first text = (begins "]" text && not first) ≡ false

-- a bare bracket is first, and a bare `-` too where it isn't last
in_place : (first : Bool) (text u after next : List ℕ) → text ≡ u ++ after → IsFirstBracket first text → (begins "-" text && not first) ≡ false
    → IsInPlace first u next
in_place first text u after next e bracket dash = grind (arith, nat_tests)

class_element : (first : Bool) (text : List ℕ) → text ≡ 91 ∷ 58 ∷ drop 2 text
    → IfOk (whole_class_at (drop 2 text)) (IsElementBefore first text)
class_element first text front =
    bind_holds (ok_or (class_from classes (drop 2 text)) (missing_end 58 (drop 2 text))) no_range _ (IsClassBefore classes (drop 2 text))
    (ok_or_holds (class_from classes (drop 2 text)) _ _ (class_takes classes (drop 2 text))) (λ x (class, is, listed, cut). cond_holds (ranges x.1) _ _ _ (λ _. tt) (λ k. (
      codes "[:" ++ class.0 ++ codes ":]",
      front ∙ ap (λ t. 91 ∷ 58 ∷ t) cut,
      λ v rest e closing. subst (WritesElement first (codes "[:" ++ class.0 ++ codes ":]") v) (sym is) (listed, refl, range_ends v rest x.1 e closing k),
    )))

same_element : (first : Bool) (text : List ℕ) → text ≡ 91 ∷ 61 ∷ drop 2 text
    → IfOk (symbol_at 61 (drop 2 text) >>= one >>= no_range) (IsElementBefore first text)
same_element first text front = go (symbol_at 61 (drop 2 text)) (symbol_takes 61 (drop 2 text))
  where
    go : (o : Result (ℕ × List ℕ) Flaw) → IfOk o (IsMarked 61 (drop 2 text)) → IfOk (o >>= one >>= no_range) (IsElementBefore first text)
    go (Err e) h = tt
    go (Ok x) h = cond_holds (ranges x.1) _ _ _ (λ _. tt) (λ k. (
      codes "[=" ++ x.0 ∷ codes "=]",
      front ∙ ap (λ t. 91 ∷ 61 ∷ t) h.0,
      λ v rest e closing. (
        inr (refl, h.1),
        ((λ is. absurd (omega (arith, ap length is))), (λ is. absurd (omega (arith, ap length is)))),
        range_ends v rest x.1 e closing k,
      ),
    ))

nothing_left : (v rest after : List ℕ) → begins "]" after ≡ true → after ≡ v ++ 93 ∷ rest → is_closing_front v ≡ false → v ≡ []
nothing_left v rest after h e closing = grind (arith, nat_tests)

-- the `-` before the closing bracket
last_dash : (first : Bool) (text : List ℕ) → text ≡ 45 ∷ drop 1 text → IfOk (last_dash_at (drop 1 text)) (IsElementBefore first text)
last_dash first text front = cond_holds (begins "]" (drop 1 text)) _ _ _ (λ h. (codes "-", front, dash h)) (λ _. tt)
  where
    dash : begins "]" (drop 1 text) ≡ true → (v rest : List ℕ) → drop 1 text ≡ v ++ 93 ∷ rest → is_closing_front v ≡ false
        → WritesElement first (codes "-") v (One 45)
    dash h v rest e closing = let none = nothing_left v rest (drop 1 text) h e closing in
        (inl (inl (refl, refl)), ((λ is. absurd (grind (arith, ap (begins "-") is))), (λ _. inr none)), ap begins_range none)

range_front : (mid w after : List ℕ) → ranges mid ≡ true → drop 1 mid ≡ w ++ after → (mid ≡ 45 ∷ (w ++ after)) × (w ≢ codes "]")
range_front mid w after r f = grind (arith, nat_tests)

-- a byte, or a range that begins with it
byte_element : (first : Bool) (text : List ℕ) → IsFirstBracket first text → (begins "-" text && not first) ≡ false
    → IfOk (byte_at text >>= range_or_one) (IsElementBefore first text)
byte_element first text bracket dash =
    bind_holds _ _ _ (IsByteBefore text) (byte_takes text) (λ x (u, cut, wx). cond_holds (ranges x.1) _ _ _
    (λ r. bind_holds _ _ _ (IsByteBefore (drop 1 x.1)) (byte_takes (drop 1 x.1)) (λ y (w, more, wy). cond_holds (nat_le x.0 y.0) _ _ _
    (λ l. let middle = range_front x.1 w y.1 r more in (
      u ++ codes "-" ++ w,
      cut ∙ ap (λ t. u ++ t) middle.0 ∙ sym (append_assoc (u ++ codes "-") w y.1 ∙ append_assoc u (codes "-") (w ++ y.1)),
      λ v rest g closing. (
        u,
        w,
        refl,
        in_place first text u x.1 (codes "-" ++ w ++ v) cut bracket dash,
        writes_alike u (45 ∷ (w ++ y.1)) (45 ∷ (w ++ v)) x.0 refl (subst (λ t. WritesByte u t x.0) middle.0 wx),
        writes_before w v rest y.0 (subst (λ t. WritesByte w t y.0) g wy),
        middle.1,
        nat_le_of x.0 y.0 l,
      ),
    ))
    (λ _. tt)))
    (λ r. (
      u,
      cut,
      λ v rest e closing. (
        inl (writes_before u v rest x.0 (subst (λ after. WritesByte u after x.0) e wx)),
        in_place first text u x.1 v cut bracket dash,
        range_ends v rest x.1 e closing r,
      ),
    )))

-- ---- The elements

pub element_takes : (first : Bool) (text : List ℕ) → IsFirstBracket first text → IfOk (element_at first text) (IsElementBefore first text)
element_takes first text bracket =
    cond_holds (begins "[" text && begins ":" (drop 1 text)) _ _ _ (λ h. class_element first text (grind (arith, nat_tests)))
    (λ _. cond_holds (begins "[" text && begins "=" (drop 1 text)) _ _ _ (λ h. same_element first text (grind (arith, nat_tests)))
    (λ _. cond_holds (begins "-" text && not first) _ _ _ (λ h. last_dash first text (one_front "-" 45 text refl (and_left (begins "-" text) (not first) h).0))
    (λ h. byte_element first text bracket h)))

-- no element but the first begins with a closing bracket, or with a `-` before one
element_front : (u v : List ℕ) (e : Element) → WritesElement false u v e → is_closing_front (u ++ v) ≡ false
element_front u v e h = grind (arith, nat_tests)

pub written_front : (text : List ℕ) (es : List Element) → WritesElements false text es → is_closing_front text ≡ false
written_front text [] h = ap is_closing_front h
written_front text (e ∷ es) (u, v, is, first, more) = ap is_closing_front is ∙ element_front u v e first

-- ---- All elements of a list

-- the elements are written up to the closing bracket
abbrev pub AreElementsBefore : Bool → List ℕ → List Element × List ℕ → Type 0
AreElementsBefore first text x = (inside : List ℕ) × (text ≡ inside ++ 93 ∷ x.1) × WritesElements first inside x.0 × (first ≡ true → x.0 ≢ [])

in_list_holds : (outer text : List ℕ) (r : Result (Element × List ℕ) Flaw) (P : Element × List ℕ → Type 0) → IfOk r P → IfOk (in_list outer text r) P
in_list_holds outer text (Ok x) P h = h
in_list_holds outer text (Err flaw) P h = tt

pub elements_take : (outer : List ℕ) (n : ℕ) (first : Bool) (text : List ℕ) → IfOk (elements_at outer n first text) (AreElementsBefore first text)
unfolding elements_at
elements_take outer zero first text = tt
elements_take outer (suc n) first text =
    cond_holds (begins "]" text && not first) _ _ _
    (λ h. let both = and_left (begins "]" text) (not first) h in
    ([], one_front "]" 93 text refl both.0, refl, λ is. absurd (false≢true (sym (ap not is) ∙ both.1))))
    (λ h. bind_holds (in_list outer text (element_at first text)) (others (elements_at outer n)) _ (IsElementBefore first text)
    (in_list_holds outer text (element_at first text) _ (element_takes first text h)) (λ x (u, cut, writes).
    bind_holds _ _ _ (AreElementsBefore false x.1) (elements_take outer n false x.1) (λ y (inside, more, written, _). (
      u ++ inside,
      cut ∙ ap (λ t. u ++ t) more ∙ sym (append_assoc u inside (93 ∷ y.1)),
      (u, inside, refl, writes inside y.1 more (written_front inside y.0 written), written),
      λ _ e. absurd (omega (arith, ap length e)),
    ))))
