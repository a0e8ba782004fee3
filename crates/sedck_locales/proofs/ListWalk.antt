-- A walk through a bracket list of the grammar ends with it.
use Rattle.std.proofs.Common.{◌≡◌, ◌≢◌, ℕ, Bool, true, false, eqb, cond, List, [], ◌∷◌, ◌++◌, refl, ap, sym, ◌∙◌, subst, inl, inr, ◌⊎◌, arith, rules, append_assoc}
use Rattle.std.specs.Prelude.{IsTrue, Contains}
use Rattle.std.specs.List.{AllByRecursion}
use Rattle.std.proofs.lemmas.Bool.{false≢true, eq-eqb}
use Rattle.std.proofs.lemmas.Bool.Decides.{nat_tests}
use Rattle.std.proofs.lemmas.List.Elements.{All-contains, All-from_recursion}
use Rattle.sedck_text.specs.Text.{begins, one_of}
use Rattle.sedck_expressions.specs.Brackets.{classes, Element, One, Range, Members, is_bare, WritesByte, WritesElement, WritesElements, IsBracketList}
use Rattle.sedck_plain.specs.WrittenLists.{after, after_member, is_in_list, lists_from}
use Rattle.sedck_plain.specs.declared.written.Position.{Position}
use Rattle.sedck_plain.specs.declared.written.Position.TheVariants.{Outside, Opened, Negated, Inside, Bracket, Symbol}

-- this text of a list leads from one position to the other
abbrev pub Passes : Position → List ℕ → Position → Type 0
Passes p u q = (v : List ℕ) → lists_from p (u ++ v) ≡ u ++ lists_from q v

pub pass_more : (p q r : Position) (u w : List ℕ) → Passes p u q → Passes q w r → Passes p (u ++ w) r
pass_more p q r u w one two v =
    ap (lists_from p) (append_assoc u w v) ∙ one (w ++ v) ∙ ap (λ t. u ++ t) (two v) ∙ sym (append_assoc u w (lists_from r v))

-- where elements of a list begin, the first one or another, before this text
abbrev pub IsReady : Bool → Position → List ℕ → Type 0
IsReady true p text = (p ≡ Negated) ⊎ ((p ≡ Opened) × (begins "^" text ≡ false))
IsReady false p text = (p ≡ Inside) ⊎ ((p ≡ Bracket) × (begins ":.=" text ≡ false))

-- a byte that doesn't end the list
step_ready : (first : Bool) (p : Position) (c : ℕ) (text : List ℕ) → IsReady first p (c ∷ text) → (c ≡ 93 → first ≡ true)
    → (after p c ≡ after_member c) × (is_in_list p ≡ true)
step_ready true p c text (inl e) h = rw e (refl, refl)
step_ready true p c text (inr e) h = rw e.0 (grind (arith, nat_tests, e.1), refl)
step_ready false p c text (inl e) h = rw e (grind (arith, nat_tests, h, false≢true), refl)
step_ready false p c text (inr e) h = rw e.0 (grind (arith, nat_tests, e.1, h, false≢true), refl)

pass_step : (first : Bool) (p : Position) (c : ℕ) (text : List ℕ) → IsReady first p (c ∷ text) → (c ≡ 93 → first ≡ true)
    → Passes p (c ∷ []) (after_member c)
pass_step first p c text ready h v = let s = step_ready first p c text ready h in rw (s.0, s.1) refl

after_member_ready : (c : ℕ) (next : List ℕ) → IsTrue (is_bare c next) → IsReady false (after_member c) next
after_member_ready c next h = go (eqb c 91) refl
  where
    go : (x : Bool) → eqb c 91 ≡ x → IsReady false (after_member c) next
    go true e = rw e (inr (refl, grind (arith, nat_tests, h, e)))
    go false e = rw e (inl refl)

-- ---- Bytes

in_symbol : (d c : ℕ) → c ≢ d → Passes (Symbol d) (c ∷ d ∷ 93 ∷ []) Inside
in_symbol d c n v =
    let other : eqb c d ≡ false = grind (arith, nat_tests, n) in
    rw (other, eq-eqb d d refl) refl

-- a symbol of one byte
pass_symbol : (first : Bool) (p : Position) (d c : ℕ) (text : List ℕ) → IsReady first p (91 ∷ text) → one_of ".=:" d ≡ true → c ≢ d
    → Passes p (91 ∷ d ∷ c ∷ d ∷ 93 ∷ []) Inside
pass_symbol first p d c text ready is n =
    pass_more p Bracket Inside (91 ∷ []) (d ∷ c ∷ d ∷ 93 ∷ []) (pass_step first p 91 text ready (λ e. absurd (omega arith)))
    (pass_more Bracket (Symbol d) Inside (d ∷ []) (c ∷ d ∷ 93 ∷ []) (λ v. rw is refl) (in_symbol d c n))

-- two bytes that begin with a backslash
pass_pair : (first : Bool) (p : Position) (c : ℕ) (text : List ℕ) → IsReady first p (92 ∷ text) → c ≢ 93 → c ≢ 91 → Passes p (92 ∷ c ∷ []) Inside
pass_pair first p c text ready n m =
    pass_more p Inside Inside (92 ∷ []) (c ∷ []) (pass_step first p 92 text ready (λ e. absurd (omega arith)))
    (λ v. let i : eqb c 93 ≡ false = grind (arith, nat_tests, n) in let j : eqb c 91 ≡ false = grind (arith, nat_tests, m) in rw (i, j) refl)

-- the text of a byte leads to where another element may begin
pub pass_written : (first : Bool) (p : Position) (c : ℕ) (text next : List ℕ) → IsReady first p (text ++ next) → WritesByte text next c
    → (text ≡ 93 ∷ [] → first ≡ true) → (q : Position) × Passes p text q × IsReady false q next
pass_written first p c text next ready (inl (is, bare)) h =
    let here : IsReady first p (c ∷ next) = subst (λ t. IsReady first p (t ++ next)) is ready in (
      after_member c,
      subst (λ t. Passes p t (after_member c)) (sym is) (pass_step first p c next here (λ e. h (is ∙ ap (λ b. b ∷ []) e))),
      after_member_ready c next bare,
    )
pass_written first p c text next ready (inr (inl (is, e))) h =
    let here = subst (λ t. IsReady first p (t ++ next)) is ready in
    (Inside, subst (λ t. Passes p t Inside) (sym is) (pass_pair first p 110 _ here (λ e. omega arith) (λ e. omega arith)), inl refl)
pass_written first p c text next ready (inr (inr (inl (is, e)))) h =
    let here = subst (λ t. IsReady first p (t ++ next)) is ready in
    (Inside, subst (λ t. Passes p t Inside) (sym is) (pass_pair first p 92 _ here (λ e. omega arith) (λ e. omega arith)), inl refl)
pass_written first p c text next ready (inr (inr (inr (is, n)))) h =
    let here = subst (λ t. IsReady first p (t ++ next)) is ready in
    (Inside, subst (λ t. Passes p t Inside) (sym is) (pass_symbol first p 46 c _ here refl n), inl refl)

-- ---- Elements

-- what follows the bracket of a class
abbrev class_text : List ℕ × (ℕ → Bool) → List ℕ
class_text class = 58 ∷ class.0 ++ 58 ∷ 93 ∷ []

abbrev PassesClass : List ℕ → List ℕ × (ℕ → Bool) → Type 0
PassesClass v class = lists_from Bracket (class_text class ++ v) ≡ class_text class ++ lists_from Inside v

pass_classes : (v : List ℕ) → AllByRecursion (PassesClass v) classes
pass_classes v = search rules

pass_class : (class : List ℕ × (ℕ → Bool)) → Contains classes class → Passes Bracket (class_text class) Inside
pass_class class listed v = All-contains (PassesClass v) classes class (All-from_recursion (PassesClass v) classes (pass_classes v)) listed

-- the hyphen of a range
pass_hyphen : (q : Position) (text : List ℕ) → IsReady false q (45 ∷ text) → Passes q (45 ∷ []) Inside
pass_hyphen q text ready = pass_step false q 45 text ready (λ e. absurd (omega arith))

pub pass_element : (first : Bool) (p : Position) (e : Element) (text next : List ℕ) → IsReady first p (text ++ next) → WritesElement first text next e
    → (q : Position) × Passes p text q × IsReady false q next
pass_element first p (One c) text next ready (inl byte, place, range) = pass_written first p c text next ready byte (λ is. place.0 is)
pass_element first p (One c) text next ready (inr (is, n), place, range) =
    let here = subst (λ t. IsReady first p (t ++ next)) is ready in
    (Inside, subst (λ t. Passes p t Inside) (sym is) (pass_symbol first p 61 c _ here refl n), inl refl)
pass_element first p (Range a z) text next ready (u, v, is, place, from, to, other, less) =
    let all = is ∙ append_assoc u (45 ∷ []) v in
    let here = subst (λ t. IsReady first p t) (append_assoc u (45 ∷ v) next) (subst (λ t. IsReady first p (t ++ next)) all ready) in
    let head = pass_written first p a u (45 ∷ (v ++ next)) here from (λ e. place.0 e) in
    let hyphen = pass_hyphen head.0 (v ++ next) head.2 in
    let end = pass_written false Inside z v next (inl refl) to (λ e. absurd (other e)) in
    let both = pass_more head.0 Inside end.0 (45 ∷ []) v hyphen end.1 in
    (end.0, subst (λ t. Passes p t end.0) (sym all) (pass_more p head.0 end.0 u (45 ∷ v) head.1 both), end.2)
pass_element first p (Members class) text next ready (listed, is, range) =
    let here = subst (λ t. IsReady first p (t ++ next)) is ready in (
      Inside,
      subst (λ t. Passes p t Inside) (sym is) (pass_more p Bracket Inside (91 ∷ []) (class_text class)
          (pass_step first p 91 _ here (λ e. absurd (omega arith))) (pass_class class listed)),
      inl refl,
    )

pub pass_elements : (es : List Element) (first : Bool) (p : Position) (inside : List ℕ) → IsReady first p inside → WritesElements first inside es
    → (first ≡ true → es ≢ []) → (q : Position) × Passes p inside q × IsReady false q []
pass_elements [] true p inside ready h some = absurd (some refl refl)
pass_elements [] false p inside ready h some =
    (p, subst (λ t. Passes p t p) (sym h) (λ v. refl), subst (λ t. IsReady false p t) h ready)
pass_elements (e ∷ es) first p inside ready (u, v, is, one, more) some =
    let head = pass_element first p e u v (subst (λ t. IsReady first p t) is ready) one in
    let rest = pass_elements es false head.0 v head.2 more (λ wrong. absurd (false≢true wrong)) in
    (rest.0, subst (λ t. Passes p t rest.0) (sym is) (pass_more p head.0 rest.0 u v head.1 rest.1), rest.2)

-- ---- The whole list

pass_end : (q : Position) → IsReady false q [] → Passes q (93 ∷ []) Outside
pass_end q (inl e) v = rw e refl
pass_end q (inr e) v = rw e.0 refl

pass_begun : (complement : Bool) (inside : List ℕ) (es : List Element) → (complement ≡ false → begins "^" inside ≡ false) → es ≢ []
    → WritesElements true inside es → Passes Outside (cond complement (91 ∷ 94 ∷ []) (91 ∷ []) ++ inside ++ 93 ∷ []) Outside
pass_begun true inside es sign some h =
    let all = pass_elements es true Negated inside (inl refl) h (λ e. some) in
    pass_more Outside all.0 Outside (91 ∷ 94 ∷ inside) (93 ∷ []) (pass_more Outside Negated all.0 (91 ∷ 94 ∷ []) inside (λ v. refl) all.1) (pass_end all.0 all.2)
pass_begun false inside es sign some h =
    let all = pass_elements es true Opened inside (inr (refl, sign refl)) h (λ e. some) in
    pass_more Outside all.0 Outside (91 ∷ inside) (93 ∷ []) (pass_more Outside Opened all.0 (91 ∷ []) inside (λ v. refl) all.1) (pass_end all.0 all.2)

pub pass_list : (text bytes : List ℕ) → IsBracketList text bytes → Passes Outside text Outside
pass_list text bytes list =
    subst (λ t. Passes Outside t Outside) (sym list.written) (pass_begun list.complement list.inside list.elements list.sign list.some list.spelled)
