-- Small facts on what begins a text, and on what is before the closing bracket of a list.
use Rattle.sedck_expressions.proofs.Common.{◌≡◌, ℕ, Bool, true, false, List, [], ◌∷◌, ◌++◌, drop, inl, inr, refl, ◌∙◌, arith, ◌==◌, ◌&&◌, ◌||◌, codes, nat_tests, String, begins, is_bare, WritesByte, begins_range, ranges, one_of}

-- a text that begins with the one byte of the literal
pub one_front : (s : String) (b : ℕ) (text : List ℕ) → codes s ≡ b ∷ [] → begins s text ≡ true → text ≡ b ∷ drop 1 text
one_front s b text e h = grind (arith, nat_tests)

-- before the closing bracket, the end of the text and the bracket are the same for these tests
pub begins_before : (s : String) (v rest : List ℕ) → one_of s 93 ≡ false → begins s (v ++ 93 ∷ rest) ≡ begins s v
begins_before s [] rest h = h
begins_before s (c ∷ v) rest h = refl

pub plain_before : (c : ℕ) (v rest : List ℕ) → is_bare c (v ++ 93 ∷ rest) ≡ is_bare c v
plain_before c v rest = grind arith

-- what is written before a text is written before another that a bare byte can't tell from it
pub writes_alike : (u s t : List ℕ) (c : ℕ) → is_bare c t ≡ is_bare c s → WritesByte u s c → WritesByte u t c
writes_alike u s t c same (inl h) = inl (h.0, same ∙ h.1)
writes_alike u s t c same (inr h) = inr h

-- ---- What no written elements begin with, but for the first

-- a closing bracket, or a `-` and a closing bracket
abbrev pub is_closing_front : List ℕ → Bool
is_closing_front [] = false
is_closing_front (c ∷ []) = c == 93
is_closing_front (c ∷ d ∷ _) = (c == 93) || ((c == 45) && (d == 93))

-- whether a range begins there is known from the text up to the closing bracket
pub range_before : (v rest : List ℕ) → is_closing_front v ≡ false → ranges (v ++ 93 ∷ rest) ≡ false → begins_range v ≡ false
range_before v rest h k = grind (arith, nat_tests)

pub range_behind : (v rest : List ℕ) → begins_range v ≡ false → ranges (v ++ 93 ∷ rest) ≡ false
range_behind v rest h = grind (arith, nat_tests)
