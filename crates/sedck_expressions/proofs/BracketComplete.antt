-- What is written as a bracket list is read, whatever follows it.
use Rattle.sedck_expressions.proofs.Common.{◌≡◌, ℕ, ◌≤◌, Bool, true, false, List, [], ◌∷◌, ◌++◌, drop, Ok, inl, inr, refl, ap, ◌∙◌, arith, rules, append_assoc, ◌&&◌, ◌⊎◌, not, nat_le, codes, IsTrue, Contains, nat_tests, begins, classes, Element, One, Members, WritesByte, begins_range, WritesElement, ◌>>=◌, symbol_at, byte_at, ranges, no_range, one, range_or_one, element_at, AllByRecursion, All-contains, All-from_recursion, Range, whole_class_at}
use Rattle.sedck_expressions.proofs.BracketLemmas.{plain_before, writes_alike, range_behind}

-- ---- One byte

byte_again : (u next : List ℕ) (c : ℕ) → WritesByte u next c → byte_at (u ++ next) ≡ Ok (c, next)
byte_again u next c h = grind (arith, nat_tests)

-- what is written before the elements that come is written before them and the closing bracket
writes_behind : (u v rest : List ℕ) (c : ℕ) → WritesByte u v c → WritesByte u (v ++ 93 ∷ rest) c
writes_behind u v rest c h = writes_alike u v (v ++ 93 ∷ rest) c (plain_before c v rest) h

-- ---- One element

-- neither a class nor an equivalence class begins where a byte is written
not_open : (u next : List ℕ) (c : ℕ) → WritesByte u next c
    → ((begins "[" (u ++ next) && begins ":" (drop 1 (u ++ next))) ≡ false) × ((begins "[" (u ++ next) && begins "=" (drop 1 (u ++ next))) ≡ false)
not_open u next c h = grind (arith, nat_tests)

-- so the byte is read first, unless it is a `-` that isn't first
byte_first : (first : Bool) (u next : List ℕ) (c : ℕ) → WritesByte u next c → (begins "-" (u ++ next) && not first) ≡ false
    → element_at first (u ++ next) ≡ range_or_one (c, next)
byte_first first u next c w dash = let free = not_open u next c w in
    rw (free.0, free.1, dash, byte_again u next c w) refl

-- only a bare `-` begins with one
last_dash : (first : Bool) (u v next : List ℕ) (c : ℕ) → WritesByte u v c → (u ≡ codes "-" → IsTrue first ⊎ (v ≡ []))
    → (begins "-" (u ++ next) && not first) ≡ true → (first ≡ false) × (u ≡ codes "-") × (c ≡ 45) × (v ≡ [])
last_dash first u v next c w place dash = grind (arith, nat_tests)

one_again : (first : Bool) (u v rest : List ℕ) (c : ℕ) → WritesByte u v c → (u ≡ codes "-" → IsTrue first ⊎ (v ≡ [])) → begins_range v ≡ false
    → element_at first (u ++ (v ++ 93 ∷ rest)) ≡ Ok (One c, v ++ 93 ∷ rest)
one_again first u v rest c w place range = go (begins "-" (u ++ (v ++ 93 ∷ rest)) && not first) refl
  where
    go : (b : Bool) → (begins "-" (u ++ (v ++ 93 ∷ rest)) && not first) ≡ b → element_at first (u ++ (v ++ 93 ∷ rest)) ≡ Ok (One c, v ++ 93 ∷ rest)
    go true e = let is = last_dash first u v (v ++ 93 ∷ rest) c w place e in rw (is.0, is.1, is.2, is.3) refl
    go false e = byte_first first u (v ++ 93 ∷ rest) c (writes_behind u v rest c w) e ∙ rw (range_behind v rest range) refl

-- a range begins where a `-` is before another byte than a bare bracket
range_dash : (y v s : List ℕ) (z : ℕ) → WritesByte y v z → (y ≡ codes "]" → ⊥) → ranges (45 ∷ (y ++ s)) ≡ true
range_dash y v s z h no_bracket = grind (arith, nat_tests)

first_dash : (first : Bool) (x next tail : List ℕ) (a : ℕ) → WritesByte x next a → (x ≡ codes "-" → IsTrue first ⊎ (45 ∷ tail ≡ []))
    → (begins "-" (x ++ next) && not first) ≡ false
first_dash first x next tail a w place = grind (arith, nat_tests)

range_again : (first : Bool) (x y v rest : List ℕ) (a z : ℕ) → WritesByte x (codes "-" ++ y ++ v) a
    → (x ≡ codes "-" → IsTrue first ⊎ (codes "-" ++ y ++ v ≡ [])) → WritesByte y v z → (y ≡ codes "]" → ⊥) → a ≤ z
    → element_at first ((x ++ codes "-" ++ y) ++ (v ++ 93 ∷ rest)) ≡ Ok (Range a z, v ++ 93 ∷ rest)
range_again first x y v rest a z byte place second no_bracket le =
    let next = 45 ∷ (y ++ (v ++ 93 ∷ rest)) in
    let wide = writes_alike x (45 ∷ (y ++ v)) next a refl byte in
    let ordered : nat_le a z ≡ true = grind (arith, nat_tests) in
    ap (element_at first) (append_assoc (x ++ codes "-") y (v ++ 93 ∷ rest) ∙ append_assoc x (codes "-") (y ++ (v ++ 93 ∷ rest)))
    ∙ byte_first first x next a wide (first_dash first x next (y ++ v) a wide place)
    ∙ rw (range_dash y v (v ++ 93 ∷ rest) z second no_bracket, byte_again y (v ++ 93 ∷ rest) z (writes_behind y v rest z second), ordered) refl

-- what a class is written as is read as that class
abbrev IsReadAgain : List ℕ → List ℕ × (ℕ → Bool) → Type 0
IsReadAgain t class = whole_class_at ((class.0 ++ codes ":]") ++ t) ≡ Ok (Members class, t)

each_again : (t : List ℕ) → ranges t ≡ false → AllByRecursion (IsReadAgain t) classes
each_again t h = rw h (search rules)

class_again : (class : List ℕ × (ℕ → Bool)) (t : List ℕ) → Contains classes class → ranges t ≡ false → IsReadAgain t class
class_again class t listed h = All-contains (IsReadAgain t) classes class (All-from_recursion (IsReadAgain t) classes (each_again t h)) listed

same_again : (c : ℕ) (t : List ℕ) → (c ≡ 61 → ⊥) → ranges t ≡ false → (symbol_at 61 (c ∷ 61 ∷ 93 ∷ t) >>= one >>= no_range) ≡ Ok (One c, t)
same_again c t h k = grind (arith, nat_tests)

pub element_again : (first : Bool) (u v rest : List ℕ) (e : Element) → WritesElement first u v e
    → element_at first (u ++ (v ++ 93 ∷ rest)) ≡ Ok (e, v ++ 93 ∷ rest)
element_again first u v rest (One c) (inl byte, place, range) = one_again first u v rest c byte place.1 range
element_again first u v rest (One c) (inr same, place, range) =
    ap (λ x. element_at first (x ++ (v ++ 93 ∷ rest))) same.0 ∙ same_again c (v ++ 93 ∷ rest) same.1 (range_behind v rest range)
element_again first u v rest (Range a z) (x, y, is, place, byte, second, no_bracket, le) =
    ap (λ t. element_at first (t ++ (v ++ 93 ∷ rest))) is ∙ range_again first x y v rest a z byte place.1 second no_bracket le
element_again first u v rest (Members class) (listed, is, range) =
    ap (λ t. element_at first (t ++ (v ++ 93 ∷ rest))) is ∙ class_again class (v ++ 93 ∷ rest) listed (range_behind v rest range)
