-- What an expression that splits no character matches by bytes it matches by characters.
use Rattle.sedck_flow.proofs.Common.{◌≡◌, inr, ℕ, zero, suc, ◌==◌, Bool, true, false, List, [], ◌∷◌, ◌++◌, length, refl, ap, sym, ◌∙◌, subst, arith, ◌||◌, MatchBool, if◌then◌else◌, nat_tests, Tree, Byte, Any, Seq, Nil, Then, Groups, Times, is_high, splits_character, CharacterMatch, ◌-◌, append_assoc, nat_lt, or_parts, Trees, Set, Repeat, goes_on, bytes_due, one_splits, is_character, MatchesCharacter, CharacterMatchAll}
use Rattle.sedck_expressions.specs.Tree.{Group}
use Rattle.sedck_bre.specs.Match.{Match, MatchAll}
use Rattle.sedck_flow.proofs.CharacterMatches.{Lacks, Starts, starts, low_byte, none_due, less}

-- ---- Choices

to_first : (b : Bool) (A B : Type 0) → b ≡ true → A → MatchBool b A B
to_first true A B is x = x
to_first false A B is x = absurd cc

to_second : (b : Bool) (A B : Type 0) → b ≡ false → B → MatchBool b A B
to_second true A B is x = absurd cc
to_second false A B is x = x

-- ---- Matches

abbrev Narrows : (Groups → List ℕ → Groups → Type 0) → (Groups → List ℕ → Groups → Type 0) → Type 0
Narrows M Whole = (e : Groups) (w : List ℕ) (f : Groups) → M e w f → Whole e w f

times_narrow : (M Whole : Groups → List ℕ → Groups → Type 0) → Narrows M Whole → (n : ℕ) → Narrows (Times M n) (Times Whole n)
times_narrow M Whole once zero e w f m = m
times_narrow M Whole once (suc n) e w f (u, v, d, cut, first, others) = (u, v, d, cut, once e u d first, times_narrow M Whole once n d v f others)

-- after the bytes of a character that have begun, what the items match by bytes they match by characters
abbrev AllNarrow : Trees → Type 0
AllNarrow ts = (due : ℕ) (begun : List ℕ) → Lacks begun due → one_splits ts due ≡ false → (e : Groups) (w : List ℕ) (f : Groups)
    → MatchAll ts e w f → CharacterMatchAll begun ts e (begun ++ w) f

low_narrows : (b : ℕ) → is_high b ≡ false → Narrows (Match (Byte b)) (MatchesCharacter (b ∷ []))
low_narrows b low e w f m = to_first (is_character (b ∷ [])) ((w ≡ b ∷ []) × (f ≡ e)) (Unit {0}) (low_byte b low) m

-- a byte, and what is matched after it
abbrev Behind : ℕ → Trees → Groups → List ℕ → Groups → Type 0
Behind b ts e w f = (v : List ℕ) × (w ≡ b ∷ v) × MatchAll ts e v f

abbrev Goal : ℕ → Trees → List ℕ → Groups → List ℕ → Groups → Type 0
Goal b ts begun e w f = CharacterMatchAll begun (Then (Byte b) ts) e (begun ++ w) f

first_byte : (b : ℕ) (ts : Trees) (e : Groups) (w : List ℕ) (f : Groups) → MatchAll (Then (Byte b) ts) e w f → Behind b ts e w f
first_byte b ts e w f (u, v, d, cut, (is, same), more) = (v, cut ∙ ap (λ x. x ++ v) is, subst (λ x. MatchAll ts x v f) same more)

joined : (begun v w : List ℕ) (b : ℕ) → w ≡ b ∷ v → begun ++ w ≡ (begun ++ b ∷ []) ++ v
joined begun v w b cut = ap (λ x. begun ++ x) cut ∙ sym (append_assoc begun (b ∷ []) v)

-- a character is whole
whole : (b : ℕ) (ts : Trees) → AllNarrow ts → (begun : List ℕ) → is_character (begun ++ b ∷ []) ≡ true → one_splits ts 0 ≡ false
    → (e : Groups) (w : List ℕ) (f : Groups) → Behind b ts e w f → Goal b ts begun e w f
whole b ts narrow begun is safe e w f (v, cut, more) =
    to_first (is_character (begun ++ b ∷ [])) ((x : List ℕ) × (begun ++ w ≡ (begun ++ b ∷ []) ++ x) × CharacterMatchAll [] ts e x f)
    (CharacterMatchAll (begun ++ b ∷ []) ts e (begun ++ w) f) is (v, joined begun v w b cut, narrow 0 [] refl safe e v f more)

-- it isn't yet
partly : (b : ℕ) (ts : Trees) → AllNarrow ts → (begun : List ℕ) (k : ℕ) → is_character (begun ++ b ∷ []) ≡ false → Lacks (begun ++ b ∷ []) (suc k)
    → one_splits ts (suc k) ≡ false → (e : Groups) (w : List ℕ) (f : Groups) → Behind b ts e w f → Goal b ts begun e w f
partly b ts narrow begun k isnt lacks safe e w f (v, cut, more) =
    to_second (is_character (begun ++ b ∷ [])) ((x : List ℕ) × (begun ++ w ≡ (begun ++ b ∷ []) ++ x) × CharacterMatchAll [] ts e x f)
    (CharacterMatchAll (begun ++ b ∷ []) ts e (begun ++ w) f) isnt
    (subst (λ x. CharacterMatchAll (begun ++ b ∷ []) ts e x f) (sym (joined begun v w b cut))
    (narrow (suc k) (begun ++ b ∷ []) lacks safe e v f more))

begins : (b : ℕ) (ts : Trees) → AllNarrow ts → (due : ℕ) → Starts b due → one_splits ts due ≡ false
    → (e : Groups) (w : List ℕ) (f : Groups) → Behind b ts e w f → Goal b ts [] e w f
begins b ts narrow zero is safe e w f m = whole b ts narrow [] is safe e w f m
begins b ts narrow (suc k) (isnt, lacks) safe e w f m = partly b ts narrow [] k isnt lacks safe e w f m

goes : (b : ℕ) (ts : Trees) → AllNarrow ts → (due : ℕ) (begun : List ℕ) → Lacks begun due → goes_on b ≡ true → (due == 0) ≡ false
    → one_splits ts (due - 1) ≡ false → (e : Groups) (w : List ℕ) (f : Groups) → Behind b ts e w f → Goal b ts begun e w f
goes b ts narrow zero begun lacks g h safe e w f m = absurd (grind (arith, nat_tests, h))
goes b ts narrow (suc zero) begun lacks g h safe e w f m = whole b ts narrow begun (lacks b g) safe e w f m
goes b ts narrow (suc (suc k)) begun lacks g h safe e w f m =
    partly b ts narrow begun k (lacks b g).0 (lacks b g).1 (subst (λ n. one_splits ts n ≡ false) (less k) safe) e w f m

byte_at : (b : ℕ) (ts : Trees) → AllNarrow ts → (g : Bool) → goes_on b ≡ g → (due : ℕ) (begun : List ℕ) → Lacks begun due
    → ((if g then due == 0 else nat_lt 0 due) || one_splits ts (if g then due - 1 else bytes_due b)) ≡ false
    → (e : Groups) (w : List ℕ) (f : Groups) → Behind b ts e w f → Goal b ts begun e w f
byte_at b ts narrow true g due begun lacks h e w f m =
    let (some, safe) = or_parts (due == 0) (one_splits ts (due - 1)) h in goes b ts narrow due begun lacks g some safe e w f m
byte_at b ts narrow false g due begun lacks h e w f m =
    let (none, safe) = or_parts (nat_lt 0 due) (one_splits ts (bytes_due b)) h in
    let empty = none_due due begun lacks none in
    subst (λ c. Goal b ts c e w f) (sym empty) (begins b ts narrow (bytes_due b) (starts b g) safe e w f m)

byte_narrow : (b : ℕ) (ts : Trees) → AllNarrow ts → AllNarrow (Then (Byte b) ts)
byte_narrow b ts narrow due begun lacks h e w f m = byte_at b ts narrow (goes_on b) refl due begun lacks h e w f (first_byte b ts e w f m)

-- an item that is no byte, and the items after it
abbrev Item : Tree → Trees → Groups → List ℕ → Groups → Type 0
Item t ts e w f = (u v : List ℕ) × (d : Groups) × (w ≡ u ++ v) × CharacterMatch t e u d × CharacterMatchAll [] ts d v f

item_narrow : (t : Tree) (ts : Trees) → Narrows (Match t) (CharacterMatch t) → AllNarrow ts → one_splits ts 0 ≡ false
    → (e : Groups) (w : List ℕ) (f : Groups) → MatchAll (Then t ts) e w f → Item t ts e w f
item_narrow t ts narrow more safe e w f (u, v, d, cut, first, others) = (u, v, d, cut, narrow e u d first, more 0 [] refl safe d v f others)

repeat_narrow : (b : ℕ) (least : ℕ) (most : _) (ts : Trees) → AllNarrow ts → AllNarrow (Then (Repeat (Byte b) least most) ts)
repeat_narrow b least most ts more due begun lacks h e w f (u, v, d, cut, (n, within, times), others) =
    let (apart, safe) = or_parts (nat_lt 0 due || is_high b) (one_splits ts 0) h in
    let (none, low) = or_parts (nat_lt 0 due) (is_high b) apart in
    let empty = none_due due begun lacks none in
    let repeated = times_narrow (Match (Byte b)) (MatchesCharacter (b ∷ [])) (low_narrows b low) n e u d times in
    subst (λ c. CharacterMatchAll c (Then (Repeat (Byte b) least most) ts) e (c ++ w) f) (sym empty)
    (u, v, d, cut, (n, within, repeated), more 0 [] refl safe d v f others)

mutual
  pub narrows : (t : Tree) → splits_character t ≡ false → Narrows (Match t) (CharacterMatch t)
  narrows (Byte b) h e w f m = low_narrows b h e w f m
  narrows Any h e w f (b, within, is, same) = (inr (ap length is), same)
  narrows (Set words) h e w f (b, has, is, same) = (λ empty. grind (arith, ap length (sym is ∙ empty)), same)
  narrows (Group k body) h e w f (d, g, before, inside, is) = (d, g, before, narrows body h d w g inside, is)
  narrows (Seq ts) h e w f m = all_narrow ts 0 [] refl h e w f m
  narrows (Repeat body least most) h e w f (n, within, times) = (n, within, times_narrow (Match body) (CharacterMatch body) (narrows body h) n e w f times)
  narrows t h e w f m = m

  pub all_narrow : (ts : Trees) → AllNarrow ts
  all_narrow Nil zero begun lacks h e w f m =
      subst (λ c. CharacterMatchAll c Nil e (c ++ w) f) (sym lacks) m
  all_narrow Nil (suc k) begun lacks h e w f m = absurd (grind (arith, nat_tests, h))
  all_narrow (Then (Byte b) ts) due begun lacks h e w f m = byte_narrow b ts (all_narrow ts) due begun lacks h e w f m
  all_narrow (Then (Repeat (Byte b) least most) ts) due begun lacks h e w f m = repeat_narrow b least most ts (all_narrow ts) due begun lacks h e w f m
  all_narrow (Then (Group k body) ts) due begun lacks h e w f m =
      let (apart, safe) = or_parts (nat_lt 0 due || splits_character body) (one_splits ts 0) h in
      let (none, inside) = or_parts (nat_lt 0 due) (splits_character body) apart in
      subst (λ c. CharacterMatchAll c (Then (Group k body) ts) e (c ++ w) f) (sym (none_due due begun lacks none))
      (item_narrow (Group k body) ts (narrows (Group k body) inside) (all_narrow ts) safe e w f m)
  all_narrow (Then (Seq us) ts) due begun lacks h e w f m =
      let (apart, safe) = or_parts (nat_lt 0 due || one_splits us 0) (one_splits ts 0) h in
      let (none, inside) = or_parts (nat_lt 0 due) (one_splits us 0) apart in
      subst (λ c. CharacterMatchAll c (Then (Seq us) ts) e (c ++ w) f) (sym (none_due due begun lacks none))
      (item_narrow (Seq us) ts (narrows (Seq us) inside) (all_narrow ts) safe e w f m)
  all_narrow (Then (Repeat body least most) ts) due begun lacks h e w f m =
      let (apart, safe) = or_parts (nat_lt 0 due || splits_character body) (one_splits ts 0) h in
      let (none, inside) = or_parts (nat_lt 0 due) (splits_character body) apart in
      subst (λ c. CharacterMatchAll c (Then (Repeat body least most) ts) e (c ++ w) f) (sym (none_due due begun lacks none))
      (item_narrow (Repeat body least most) ts (narrows (Repeat body least most) inside) (all_narrow ts) safe e w f m)
  all_narrow (Then t ts) due begun lacks h e w f m =
      let (none, safe) = or_parts (nat_lt 0 due) (one_splits ts 0) h in
      subst (λ c. CharacterMatchAll c (Then t ts) e (c ++ w) f) (sym (none_due due begun lacks none))
      (item_narrow t ts (narrows t refl) (all_narrow ts) safe e w f m)
