-- What is read as an interval is spelled so, and what is spelled so is read.
use Rattle.sedck_expressions.proofs.Common.{◌≡◌, ℕ, ◌≤◌, true, false, List, [], ◌∷◌, ◌++◌, drop, Option, Some, None, inl, inr, refl, sym, ap, ◌∙◌, arith, IfSome, append_assoc, ◌&&◌, not, nat_le, codes, IsTrue, list_all, nat_tests, digits_value, begins, is_digit, Longest, is_empty, SpellsCount, begins_pair, number_of, number_at, IfSome_then, option_and_then, IsEmptyOr, IsNumber, digits_at, bounds_of}
use Rattle.sedck_text.proofs.Runs.{longest_cut, longest_one}
use Rattle.sedck_expressions.specs.IntervalReading.{interval_at}
use Rattle.sedck_expressions.proofs.ReadLemmas.{some_if, and_left, pair_text, IsIntervalBefore}

some_then : {A B : Type 0} (o : Option A) (f : A → Option B) (P : B → Type 0) (Q : A → Type 0) → IfSome o Q → ((x : A) → Q x → IfSome (f x) P)
    → IfSome (option_and_then f o) P
some_then None f P Q h g = tt
some_then (Some x) f P Q h g = g x h

-- the digits are cut off the text in no other way
pub digits_are : {text front rest : List ℕ} → Longest is_digit text front rest → digits_at text ≡ (front, rest)
digits_are {text} l = let same = longest_one (longest_cut is_digit text) l in cc (same.0, same.1)

abbrev IsNumberBefore : List ℕ → ℕ × List ℕ → Type 0
IsNumberBefore text x = (m : List ℕ) × (text ≡ m ++ x.1) × IsNumber m x.0

number_takes : (text : List ℕ) → IfSome (number_at text) (IsNumberBefore text)
number_takes text = let l = longest_cut is_digit text in go (digits_at text).0 (digits_at text).1 l.cut l.passes
  where
    some : (ds : List ℕ) → not (is_empty ds) ≡ true → ds ≡ [] → ⊥
    some ds h = grind arith

    go : (ds rest : List ℕ) → text ≡ ds ++ rest → IsTrue (list_all is_digit ds) → IfSome (number_of (ds, rest)) (IsNumberBefore text)
    go ds rest cut passes = some_if (not (is_empty ds) && nat_le (digits_value 10 ds) 255) _ _ _ (λ s.
        let both : (not (is_empty ds) ≡ true) × (digits_value 10 ds ≤ 255) = grind (arith, nat_tests) in
        (ds, cut, (some ds both.0, passes, refl, both.1))) (λ _. tt)

comma_text : (text : List ℕ) → begins "," text ≡ true → text ≡ 44 ∷ drop 1 text
comma_text text h = grind (arith, nat_tests)

regroup : (m n r : List ℕ) → ((m ++ codes ",") ++ n ++ codes "\\}") ++ r ≡ m ++ 44 ∷ (n ++ 92 ∷ 125 ∷ r)
regroup m n r = simp append_assoc

-- what follows the first number of an interval is before the rest, and ends an interval of these bounds
abbrev IsEndBefore : ℕ → List ℕ → ℕ × Option ℕ × List ℕ → Type 0
IsEndBefore least text x = (v : List ℕ) × (text ≡ v ++ x.2)
    × ((m : List ℕ) → IsNumber m least → SpellsCount (codes "\\{" ++ m ++ v) x.0 x.1)

bounds_take : (least : ℕ) (text : List ℕ) → IfSome (bounds_of (least, text)) (IsEndBefore least text)
bounds_take least text =
    some_if (begins_pair 125 text) _ _ _
    (λ e. (codes "\\}", pair_text 125 text e, λ m h. inl (m, h, refl, refl)))
    (λ _. some_if (begins "," text) _ _ _
    (λ c. let comma = λ (t : List ℕ) (is : drop 1 text ≡ t). comma_text text c ∙ ap (λ t. 44 ∷ t) is in
    some_if (begins_pair 125 (drop 1 text)) _ _ _
    (λ e. (codes ",\\}", comma _ (pair_text 125 (drop 1 text) e), λ m h. inr (m, h, refl)))
    (λ _. some_then _ _ _ (IsNumberBefore (drop 1 text)) (number_takes (drop 1 text)) (λ y (n, cut, number).
    some_if (begins_pair 125 y.1 && nat_le least y.0) _ _ _
    (λ e. let both : (begins_pair 125 y.1 ≡ true) × (least ≤ y.0) = grind (arith, nat_tests) in
    let is = cut ∙ ap (λ t. n ++ t) (pair_text 125 y.1 both.0) ∙ sym (append_assoc n (codes "\\}") (drop 2 y.1)) in
    (codes "," ++ n ++ codes "\\}", comma _ is, λ m h. inr (m, n, h, number, both.1, simp append_assoc)))
    (λ _. tt))))
    (λ _. tt))

pub interval_takes : (text : List ℕ) → IfSome (interval_at text) (IsIntervalBefore text)
unfolding interval_at
interval_takes text = some_if (begins_pair 123 text) _ _ _
    (λ b. some_then _ _ _ (IsNumberBefore (drop 2 text)) (number_takes (drop 2 text)) (λ x (m, cut, number).
    IfSome_then (bounds_of x) (bounds_take x.0 x.1) (λ y (v, behind, spells).
    let is = pair_text 123 text b ∙ ap (λ t. 92 ∷ 123 ∷ t) (cut ∙ ap (λ t. m ++ t) behind ∙ sym (append_assoc m v y.2)) in
    (codes "\\{" ++ m ++ v, is, spells m number))))
    (λ _. tt)

number_again : (m rest : List ℕ) (n : ℕ) → IsNumber m n → IsEmptyOr (λ b. not (is_digit b)) rest → number_at (m ++ rest) ≡ Some (n, rest)
number_again m rest n (some, passes, is, few) e = ap number_of (digits_are {front = m} (record { cut = refl; passes = passes; stops = e })) ∙ number m some is few
  where
    number : (m : List ℕ) → (m ≡ [] → ⊥) → n ≡ digits_value 10 m → n ≤ 255 → number_of (m, rest) ≡ Some (n, rest)
    number m some is few = grind (arith, nat_tests)

-- a digit begins no `\}`
digit_front : (n rest : List ℕ) → (n ≡ [] → ⊥) → IsTrue (list_all is_digit n) → begins_pair 125 (n ++ rest) ≡ false
digit_front [] rest h d = absurd (h refl)
digit_front (c ∷ n) rest h d = no_pair c (n ++ rest) (and_left (is_digit c) (list_all is_digit n) d).0
  where
    no_pair : (c : ℕ) (t : List ℕ) → is_digit c ≡ true → begins_pair 125 (c ∷ t) ≡ false
    no_pair c t h = grind (arith, nat_tests)

-- what is spelled as an interval is read, whatever follows it
pub interval_again : (u : List ℕ) (least : ℕ) (most : Option ℕ) (rest : List ℕ) → begins_pair 123 u ≡ true → SpellsCount u least most
    → interval_at (u ++ rest) ≡ Some (least, most, rest)
unfolding interval_at
interval_again u least None rest b (inl (is, _)) = absurd (cc)
interval_again u least None rest b (inr (m, h, is)) =
    rw (is, append_assoc m (codes ",\\}") rest, number_again m (44 ∷ 92 ∷ 125 ∷ rest) least h refl) refl
interval_again u least (Some most) rest b (inl (m, h, same, is)) =
    rw (is, append_assoc m (codes "\\}") rest, number_again m (92 ∷ 125 ∷ rest) least h refl, same) refl
interval_again u least (Some most) rest b (inr (m, n, h, i, le, is)) =
    rw (is, regroup m n rest, number_again m (44 ∷ (n ++ 92 ∷ 125 ∷ rest)) least h refl, comma (n ++ 92 ∷ 125 ∷ rest))
    (rw (digit_front n (92 ∷ 125 ∷ rest) i.0 i.1, number_again n (92 ∷ 125 ∷ rest) most i refl, small least most le) refl)
  where
    small : (a b : ℕ) → a ≤ b → nat_le a b ≡ true
    small a b h = grind (arith, nat_tests)

    comma : (t : List ℕ) → begins_pair 125 (44 ∷ t) ≡ false
    comma t = grind (arith, nat_tests)
