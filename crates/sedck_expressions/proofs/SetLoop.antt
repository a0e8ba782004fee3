-- The set that grows with the elements, and the set of a whole list.
use Rattle.sedck_expressions.proofs.Common.{◌≡◌, ◌≢◌, ℕ, Bool, true, false, List, [], ◌∷◌, ◌++◌, length, Ok, Err, refl, sym, arith, ◌||◌, list_any, bytes_where, Element, in_element, is_mistakable, is_listed, some_of, inside_of, elements_of, set_at, AreWords, HasJust, has_no_word, is_of, list_any-append, mistaken, BadBracket, EmptySet, signed}
use Rattle.sedck_expressions.specs.View.{bytes_in}
use Rattle.sedck_expressions.specs.BracketReading.{holder}
use Rattle.sedck_expressions.proofs.SetLemmas.{just_same}
use Rattle.sedck_expressions.proofs.BracketSets.{just_bytes, some_in, none_in}

any_push : (p : Element → Bool) (es : List Element) (e : Element) → list_any p (es ++ e ∷ []) ≡ (list_any p es || p e)
any_push p es e = grind (arith, list_any-append p es (e ∷ []))

pub just_push : (words : List ℕ) (front : List Element) (e : Element) → HasJust words (λ b. is_of front b || in_element b e)
    → HasJust words (is_of (front ++ e ∷ []))
just_push words front e = just_same words (λ b. is_of front b || in_element b e) (is_of (front ++ e ∷ [])) (λ b. sym (any_push (in_element b) front e))

-- ---- The bytes of the set

pub some_is : (outer bytes rest : List ℕ) → bytes ≢ [] → some_of outer bytes rest ≡ Ok (bytes, rest)
some_is outer bytes rest h = grind arith

signed_same : (complement : Bool) (es : List Element) (b : ℕ) → signed complement (is_of es) b ≡ is_listed complement es b
signed_same complement es b = grind arith

module _ (outer : List ℕ) (complement : Bool) (text rest words : List ℕ) (es : List Element) (read : elements_of outer text ≡ Ok (es, rest)) (four : AreWords words)
    (just : HasJust words (signed complement (is_of es))) where
  bytes_are : bytes_where (is_listed complement es) ≡ bytes_in words
  bytes_are = sym (just_bytes words (is_listed complement es)
      (just_same words (signed complement (is_of es)) (is_listed complement es) (signed_same complement es) just))

  pub set_given : is_mistakable (inside_of text rest) ≡ false → has_no_word words ≡ false → set_at outer complement text ≡ Ok (bytes_in words, rest)
  set_given clear h = rw (read, clear, bytes_are) (some_is outer (bytes_in words) rest (some_in words four h))

  pub set_empty : is_mistakable (inside_of text rest) ≡ false → has_no_word words ≡ true → set_at outer complement text ≡ Err (EmptySet, outer)
  set_empty clear h = rw (read, clear, bytes_are, none_in words h) refl

-- a list that is mistakable isn't read
pub set_mistakable : (outer : List ℕ) (complement : Bool) (text rest : List ℕ) (es : List Element) → elements_of outer text ≡ Ok (es, rest)
    → is_mistakable (inside_of text rest) ≡ true
    → set_at outer complement text ≡ Err (BadBracket, holder (length text) (mistaken (inside_of text rest) rest) true text)
set_mistakable outer complement text rest es read e = rw (read, e) refl
