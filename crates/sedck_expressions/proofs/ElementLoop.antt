-- The loop over the elements of a list: those that have been read, before those that are left to read. The bound on their number
-- does not matter, as long as it is above the length of what is left.
use Rattle.sedck_expressions.proofs.Common.{◌≡◌, ℕ, suc, zero, ◌+◌, ◌<◌, ◌≤◌, Bool, true, false, List, [], ◌∷◌, ◌++◌, length, drop, Result, Ok, Err, refl, sym, ap, ◌∙◌, arith, append_assoc, ◌&&◌, not, if◌then◌else◌, append-nil, begins, Element, ◌>>=◌, element_at, elements_of, flaw_at, in_list, before_elements, others, Stop, Flaw}
use Rattle.sedck_expressions.specs.BracketReading.{elements_at}

abbrev pub elements_before : List Element → List Element × List ℕ → Result (List Element × List ℕ) Stop
elements_before front (es, rest) = Ok (front ++ es, rest)

abbrev pub with_elements : List Element → Result (List Element × List ℕ) Stop → Result (List Element × List ℕ) Stop
with_elements front o = o >>= elements_before front

with_elements-push : (front : List Element) (e : Element) (o : Result (List Element × List ℕ) Stop)
    → with_elements front (o >>= before_elements e) ≡ with_elements (front ++ e ∷ []) o
with_elements-push front e (Err stop) = refl
with_elements-push front e (Ok x) = ap (λ es. Ok (es, x.1)) (sym (append_assoc front (e ∷ []) x.0))

-- the whole reading is that of the rest of the text, with the elements before it
pub record LeftToRead (outer : List ℕ) (read : Result (List Element × List ℕ) Stop) (front : List Element) (first : Bool) (text : List ℕ) : Type 0 where
  pub bound : ℕ
  pub enough : length text < bound
  pub is : with_elements front (elements_at outer bound first text) ≡ read

with_elements-nil : (o : Result (List Element × List ℕ) Stop) → with_elements [] o ≡ o
with_elements-nil o = grind arith

pub elements_start : (outer text : List ℕ) → LeftToRead outer (elements_of outer text) [] true text
elements_start outer text = record { bound = length text + 1; enough = omega arith; is = with_elements-nil (elements_of outer text) }

module _ {outer : List ℕ} {read : Result (List Element × List ℕ) Stop} {front : List Element} {first : Bool} {text : List ℕ} (left : LeftToRead outer read front first text) where
  abbrev some_at : ℕ → Result (List Element × List ℕ) Stop
  some_at n = if begins "]" text && not first then Ok ([], drop 1 text) else (in_list outer text (element_at first text) >>= others (elements_at outer n))

  -- a bound for what follows the first element
  step : (n : ℕ) × (length text ≤ n) × (with_elements front (some_at n) ≡ read)
  unfolding elements_at
  step = go left.bound left.enough left.is
    where
      go : (n : ℕ) → length text < n → with_elements front (elements_at outer n first text) ≡ read → (n : ℕ) × (length text ≤ n) × (with_elements front (some_at n) ≡ read)
      go zero enough is = absurd (omega arith)
      go (suc n) enough is = (n, omega (arith, enough), is)

  pub elements_end : (begins "]" text && not first) ≡ true → read ≡ Ok (front, drop 1 text)
  elements_end over = sym (rw (over, append-nil front) at step.2)

  pub elements_fail : (flaw : Flaw) → (begins "]" text && not first) ≡ false → element_at first text ≡ Err flaw → read ≡ Err (flaw_at outer text flaw)
  elements_fail flaw going none = sym (rw (going, none) at step.2)

  pub elements_go : (e : Element) (after : List ℕ) → (begins "]" text && not first) ≡ false → element_at first text ≡ Ok (e, after)
      → length after < length text → LeftToRead outer read (front ++ e ∷ []) false after
  elements_go e after going one less =
      record { bound = step.0; enough = omega (arith, less, step.1); is = sym (with_elements-push front e _) ∙ (rw (going, one) at step.2) }
