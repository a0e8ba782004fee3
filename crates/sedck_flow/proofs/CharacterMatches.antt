-- A match by characters of an expression that splits none is a wide match.
use Rattle.sedck_flow.proofs.Common.{◌≡◌, ◌≢◌, inl, inr, ℕ, zero, suc, ◌==◌, Bool, true, false, List, [], ◌∷◌, ◌++◌, length, refl, ap, sym, ◌∙◌, subst, arith, ◌||◌, MatchBool, if◌then◌else◌, false≢true, nat_tests, Tree, Byte, Any, Seq, Nil, Then, Groups, Times, WideMatch, is_high, splits_character, CharacterMatch, ◌-◌, append_assoc, nat_lt, ◌&&◌, or_parts, and_from, Trees, Set, Repeat, WideMatchAll, goes_on, bytes_due, one_splits, is_tail, is_character, IsOne, MatchesCharacter, CharacterMatchAll}
use Rattle.sedck_expressions.specs.Tree.{Group}

-- ---- Choices

first_case : (b : Bool) (A B : Type 0) → b ≡ true → MatchBool b A B → A
first_case true A B is m = m
first_case false A B is m = absurd (false≢true is)

second_case : (b : Bool) (A B : Type 0) → b ≡ false → MatchBool b A B → B
second_case true A B is m = absurd (false≢true (sym is))
second_case false A B is m = m

-- ---- Characters

-- so many bytes are due until the text is a character, and not before
abbrev pub Lacks : List ℕ → ℕ → Type 0
Lacks c zero = c ≡ []
Lacks c (suc zero) = (b : ℕ) → goes_on b ≡ true → is_character (c ++ b ∷ []) ≡ true
Lacks c (suc (suc k)) = (b : ℕ) → goes_on b ≡ true → (is_character (c ++ b ∷ []) ≡ false) × Lacks (c ++ b ∷ []) (suc k)

-- after its first byte
abbrev pub Starts : ℕ → ℕ → Type 0
Starts b zero = is_character (b ∷ []) ≡ true
Starts b (suc k) = (is_character (b ∷ []) ≡ false) × Lacks (b ∷ []) (suc k)

three_true : (a b c : Bool) → a ≡ true → b ≡ true → c ≡ true → (a && b && c) ≡ true
three_true a b c x y z = and_from (a && b) c (and_from a b x y) z

four_true : (a b c d : Bool) → a ≡ true → b ≡ true → c ≡ true → d ≡ true → (a && b && c && d) ≡ true
four_true a b c d x y z u = and_from (a && b && c) d (three_true a b c x y z) u

not_second : (a b c : Bool) → b ≡ false → (a && b && c) ≡ false
not_second true b c is = ap (λ x. x && c) is
not_second false b c is = refl

not_second_of_four : (a b c d : Bool) → b ≡ false → (a && b && c && d) ≡ false
not_second_of_four a b c d is = ap (λ x. x && d) (not_second a b c is)

starts_at : (b : ℕ) (l m n : Bool) → nat_lt b 192 ≡ l → nat_lt b 224 ≡ m → nat_lt b 240 ≡ n → goes_on b ≡ false
    → Starts b (if l then 0 else if m then 1 else if n then 2 else 3)
starts_at b true m n x y z g = grind (arith, nat_tests, x, g)
starts_at b false true n x y z g = (
  grind (arith, nat_tests, x),
  λ c h. three_true (nat_lt 191 b) (nat_lt b 224) (is_tail c) (grind (arith, nat_tests, x)) y h,
)
starts_at b false false true x y z g = (
  grind (arith, nat_tests, x),
  λ c h. (
    not_second (nat_lt 191 b) (nat_lt b 224) (is_tail c) y,
    λ d i. four_true (nat_lt 223 b) (nat_lt b 240) (is_tail c) (is_tail d) (grind (arith, nat_tests, y)) z h i,
  ),
)
starts_at b false false false x y z g = (
  grind (arith, nat_tests, x),
  λ c h. (
    not_second (nat_lt 191 b) (nat_lt b 224) (is_tail c) y,
    λ d i. (
      not_second_of_four (nat_lt 223 b) (nat_lt b 240) (is_tail c) (is_tail d) z,
      λ f j. four_true (nat_lt 239 b) (is_tail c) (is_tail d) (is_tail f) (grind (arith, nat_tests, z)) h i j,
    ),
  ),
)

pub starts : (b : ℕ) → goes_on b ≡ false → Starts b (bytes_due b)
starts b g = starts_at b (nat_lt b 192) (nat_lt b 224) (nat_lt b 240) refl refl refl g

pub low_byte : (b : ℕ) → is_high b ≡ false → is_character (b ∷ []) ≡ true
low_byte b h = grind (arith, nat_tests, h)

not_empty : (w : List ℕ) → IsOne w → w ≢ []
not_empty w (inl whole) is = false≢true (subst (λ v. is_character v ≡ true) is whole)
not_empty w (inr one) is = grind (arith, one, ap length is)

-- ---- Matches

abbrev Widens : (Groups → List ℕ → Groups → Type 0) → (Groups → List ℕ → Groups → Type 0) → Type 0
Widens M Wide = (e : Groups) (w : List ℕ) (f : Groups) → M e w f → Wide e w f

times_widen : (M Wide : Groups → List ℕ → Groups → Type 0) → Widens M Wide → (n : ℕ) → Widens (Times M n) (Times Wide n)
times_widen M Wide once zero e w f m = m
times_widen M Wide once (suc n) e w f (u, v, d, cut, first, others) = (u, v, d, cut, once e u d first, times_widen M Wide once n d v f others)

-- what is matched begins with the bytes that have begun, and the items match what is left
abbrev Rest : List ℕ → Trees → Groups → List ℕ → Groups → Type 0
Rest begun ts e w f = (rest : List ℕ) × (w ≡ begun ++ rest) × WideMatchAll ts e rest f

abbrev AllWide : Trees → Type 0
AllWide ts = (due : ℕ) (begun : List ℕ) → Lacks begun due → one_splits ts due ≡ false → (e : Groups) (w : List ℕ) (f : Groups)
    → CharacterMatchAll begun ts e w f → Rest begun ts e w f

low_widens : (b : ℕ) → is_high b ≡ false → Widens (MatchesCharacter (b ∷ [])) (WideMatch (Byte b))
low_widens b low e w f m = first_case (is_character (b ∷ [])) ((w ≡ b ∷ []) × (f ≡ e)) (Unit {0}) (low_byte b low) m

pub none_due : (due : ℕ) (begun : List ℕ) → Lacks begun due → nat_lt 0 due ≡ false → begun ≡ []
none_due zero begun lacks h = lacks
none_due (suc k) begun lacks h = absurd (grind (arith, nat_tests, h))

-- the byte after those that have begun, and what is left after it
onward : (b : ℕ) (ts : Trees) (begun : List ℕ) (e : Groups) (w : List ℕ) (f : Groups) → Rest (begun ++ b ∷ []) ts e w f → Rest begun (Then (Byte b) ts) e w f
onward b ts begun e w f (rest, is, more) = (b ∷ rest, is ∙ append_assoc begun (b ∷ []) rest, (b ∷ [], rest, e, refl, (refl, refl), more))

-- a character is whole
whole : (b : ℕ) (ts : Trees) → AllWide ts → (begun : List ℕ) → is_character (begun ++ b ∷ []) ≡ true → one_splits ts 0 ≡ false
    → (e : Groups) (w : List ℕ) (f : Groups) → CharacterMatchAll begun (Then (Byte b) ts) e w f → Rest (begun ++ b ∷ []) ts e w f
whole b ts wide begun is safe e w f m =
    let found = first_case (is_character (begun ++ b ∷ [])) ((v : List ℕ) × (w ≡ (begun ++ b ∷ []) ++ v) × CharacterMatchAll [] ts e v f)
    (CharacterMatchAll (begun ++ b ∷ []) ts e w f) is m in
    let (v, cut, others) = found in
    let (rest, same, more) = wide 0 [] refl safe e v f others in
    (v, cut, subst (λ r. WideMatchAll ts e r f) (sym same) more)

-- it isn't yet
partly : (b : ℕ) (ts : Trees) → AllWide ts → (begun : List ℕ) (k : ℕ) → is_character (begun ++ b ∷ []) ≡ false → Lacks (begun ++ b ∷ []) (suc k)
    → one_splits ts (suc k) ≡ false → (e : Groups) (w : List ℕ) (f : Groups) → CharacterMatchAll begun (Then (Byte b) ts) e w f
    → Rest (begun ++ b ∷ []) ts e w f
partly b ts wide begun k isnt lacks safe e w f m = wide (suc k) (begun ++ b ∷ []) lacks safe e w f
    (second_case (is_character (begun ++ b ∷ [])) ((v : List ℕ) × (w ≡ (begun ++ b ∷ []) ++ v) × CharacterMatchAll [] ts e v f)
    (CharacterMatchAll (begun ++ b ∷ []) ts e w f) isnt m)

begins : (b : ℕ) (ts : Trees) → AllWide ts → (due : ℕ) → Starts b due → one_splits ts due ≡ false
    → (e : Groups) (w : List ℕ) (f : Groups) → CharacterMatchAll [] (Then (Byte b) ts) e w f → Rest (b ∷ []) ts e w f
begins b ts wide zero is safe e w f m = whole b ts wide [] is safe e w f m
begins b ts wide (suc k) (isnt, lacks) safe e w f m = partly b ts wide [] k isnt lacks safe e w f m

pub less : (k : ℕ) → suc (suc k) - 1 ≡ suc k
less k = omega arith

goes : (b : ℕ) (ts : Trees) → AllWide ts → (due : ℕ) (begun : List ℕ) → Lacks begun due → goes_on b ≡ true → (due == 0) ≡ false
    → one_splits ts (due - 1) ≡ false → (e : Groups) (w : List ℕ) (f : Groups) → CharacterMatchAll begun (Then (Byte b) ts) e w f
    → Rest (begun ++ b ∷ []) ts e w f
goes b ts wide zero begun lacks g h safe e w f m = absurd (grind (arith, nat_tests, h))
goes b ts wide (suc zero) begun lacks g h safe e w f m = whole b ts wide begun (lacks b g) safe e w f m
goes b ts wide (suc (suc k)) begun lacks g h safe e w f m =
    partly b ts wide begun k (lacks b g).0 (lacks b g).1 (subst (λ n. one_splits ts n ≡ false) (less k) safe) e w f m

byte_at : (b : ℕ) (ts : Trees) → AllWide ts → (g : Bool) → goes_on b ≡ g → (due : ℕ) (begun : List ℕ) → Lacks begun due
    → ((if g then due == 0 else nat_lt 0 due) || one_splits ts (if g then due - 1 else bytes_due b)) ≡ false
    → (e : Groups) (w : List ℕ) (f : Groups) → CharacterMatchAll begun (Then (Byte b) ts) e w f → Rest begun (Then (Byte b) ts) e w f
byte_at b ts wide true g due begun lacks h e w f m =
    let (some, safe) = or_parts (due == 0) (one_splits ts (due - 1)) h in
    onward b ts begun e w f (goes b ts wide due begun lacks g some safe e w f m)
byte_at b ts wide false g due begun lacks h e w f m =
    let (none, safe) = or_parts (nat_lt 0 due) (one_splits ts (bytes_due b)) h in
    let empty = none_due due begun lacks none in
    onward b ts begun e w f (subst (λ c. Rest (c ++ b ∷ []) ts e w f) (sym empty)
    (begins b ts wide (bytes_due b) (starts b g) safe e w f (subst (λ c. CharacterMatchAll c (Then (Byte b) ts) e w f) empty m)))

byte_wide : (b : ℕ) (ts : Trees) → AllWide ts → AllWide (Then (Byte b) ts)
byte_wide b ts wide due begun lacks h e w f m = byte_at b ts wide (goes_on b) refl due begun lacks h e w f m

-- an item that is no byte, and the items after it
abbrev Item : Tree → Trees → Groups → List ℕ → Groups → Type 0
Item t ts e w f = (u v : List ℕ) × (d : Groups) × (w ≡ u ++ v) × CharacterMatch t e u d × CharacterMatchAll [] ts d v f

item_wide : (t : Tree) (ts : Trees) → Widens (CharacterMatch t) (WideMatch t) → AllWide ts → one_splits ts 0 ≡ false → (begun : List ℕ) → begun ≡ []
    → (e : Groups) (w : List ℕ) (f : Groups) → Item t ts e w f → Rest begun (Then t ts) e w f
item_wide t ts wide more safe begun empty e w f (u, v, d, cut, first, others) =
    let (rest, same, found) = more 0 [] refl safe d v f others in
    (w, ap (λ c. c ++ w) (sym empty), (u, v, d, cut, wide e u d first, subst (λ r. WideMatchAll ts d r f) (sym same) found))

repeat_wide : (b : ℕ) (least : ℕ) (most : _) (ts : Trees) → AllWide ts → AllWide (Then (Repeat (Byte b) least most) ts)
repeat_wide b least most ts more due begun lacks h e w f (u, v, d, cut, (n, within, times), others) =
    let (apart, safe) = or_parts (nat_lt 0 due || is_high b) (one_splits ts 0) h in
    let (none, low) = or_parts (nat_lt 0 due) (is_high b) apart in
    let empty = none_due due begun lacks none in
    let (rest, same, found) = more 0 [] refl safe d v f others in
    let repeated = times_widen (MatchesCharacter (b ∷ [])) (WideMatch (Byte b)) (low_widens b low) n e u d
    (subst (λ c. Times (MatchesCharacter (c ++ b ∷ [])) n e u d) empty times) in
    (w, ap (λ c. c ++ w) (sym empty), (u, v, d, cut, (n, within, repeated), subst (λ r. WideMatchAll ts d r f) (sym same) found))

mutual
  pub widens : (t : Tree) → splits_character t ≡ false → Widens (CharacterMatch t) (WideMatch t)
  widens (Byte b) h e w f m = low_widens b h e w f m
  widens Any h e w f (one, same) = (not_empty w one, same)
  widens (Set words) h e w f m = m
  widens (Group k body) h e w f (d, g, before, inside, is) = (d, g, before, widens body h d w g inside, is)
  widens (Seq ts) h e w f m =
      let (rest, same, found) = all_widen ts 0 [] refl h e w f m in
      subst (λ r. WideMatchAll ts e r f) (sym same) found
  widens (Repeat body least most) h e w f (n, within, times) = (n, within, times_widen (CharacterMatch body) (WideMatch body) (widens body h) n e w f times)
  widens t h e w f m = m

  pub all_widen : (ts : Trees) → AllWide ts
  all_widen Nil zero begun lacks h e w f m = (w, ap (λ c. c ++ w) (sym lacks), subst (λ c. CharacterMatchAll c Nil e w f) lacks m)
  all_widen Nil (suc k) begun lacks h e w f m = absurd (grind (arith, nat_tests, h))
  all_widen (Then (Byte b) ts) due begun lacks h e w f m = byte_wide b ts (all_widen ts) due begun lacks h e w f m
  all_widen (Then (Repeat (Byte b) least most) ts) due begun lacks h e w f m = repeat_wide b least most ts (all_widen ts) due begun lacks h e w f m
  all_widen (Then (Group k body) ts) due begun lacks h e w f m =
      let (apart, safe) = or_parts (nat_lt 0 due || splits_character body) (one_splits ts 0) h in
      let (none, inside) = or_parts (nat_lt 0 due) (splits_character body) apart in
      let empty = none_due due begun lacks none in
      item_wide (Group k body) ts (widens (Group k body) inside) (all_widen ts) safe begun empty e w f
      (subst (λ c. CharacterMatchAll c (Then (Group k body) ts) e w f) empty m)
  all_widen (Then (Seq us) ts) due begun lacks h e w f m =
      let (apart, safe) = or_parts (nat_lt 0 due || one_splits us 0) (one_splits ts 0) h in
      let (none, inside) = or_parts (nat_lt 0 due) (one_splits us 0) apart in
      let empty = none_due due begun lacks none in
      item_wide (Seq us) ts (widens (Seq us) inside) (all_widen ts) safe begun empty e w f
      (subst (λ c. CharacterMatchAll c (Then (Seq us) ts) e w f) empty m)
  all_widen (Then (Repeat body least most) ts) due begun lacks h e w f m =
      let (apart, safe) = or_parts (nat_lt 0 due || splits_character body) (one_splits ts 0) h in
      let (none, inside) = or_parts (nat_lt 0 due) (splits_character body) apart in
      let empty = none_due due begun lacks none in
      item_wide (Repeat body least most) ts (widens (Repeat body least most) inside) (all_widen ts) safe begun empty e w f
      (subst (λ c. CharacterMatchAll c (Then (Repeat body least most) ts) e w f) empty m)
  all_widen (Then t ts) due begun lacks h e w f m =
      let (none, safe) = or_parts (nat_lt 0 due) (one_splits ts 0) h in
      let empty = none_due due begun lacks none in
      item_wide t ts (widens t refl) (all_widen ts) safe begun empty e w f (subst (λ c. CharacterMatchAll c (Then t ts) e w f) empty m)
