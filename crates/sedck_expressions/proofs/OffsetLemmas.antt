-- What is at a cursor's offset in its text.
use Rattle.sedck_expressions.proofs.Common.{◌≡◌, ℕ, true, ◌+◌, ◌-◌, ◌<◌, ◌≤◌, List, [], ◌∷◌, length, take, drop, refl, sym, ap, ◌∙◌, arith, false≢true, nat_tests, IsTrue, String, begins, Cursor, unread, HasOneAt, is_mistakable, at_end, inside_at, inside_of, length-drop, IsFlawIn, Flaw}
use Rattle.std.proofs.lemmas.Grind.{common_steps}
use Rattle.sedck_expressions.specs.declared.brackets.symbols.Flaw.TheVariants.{Escape}
use Rattle.std.specs.Prelude.{Bool, zero, suc}
use Rattle.sedck_expressions.specs.BracketReading.{bracket_at}

-- what is at an offset behind which the text begins with one of these bytes
pub stands_behind : (text : List ℕ) (n : ℕ) (s : String) → IsTrue (begins s (drop n text)) → HasOneAt text n s
stands_behind [] zero s h = absurd (false≢true h)
stands_behind [] (suc n) s h = absurd (false≢true h)
stands_behind (c ∷ text) zero s h = (omega arith, h)
stands_behind (c ∷ text) (suc n) s h = let more = stands_behind text n s h in (omega (arith, more.0), more.1)

pub stands_at : (cursor : Cursor) (s : String) → IsTrue (begins s (unread cursor)) → HasOneAt cursor.whole.now cursor.at s
stands_at cursor s h = stands_behind cursor.whole.now cursor.at s h

-- how far a text is read by what is left of it
pub left_at : (text : List ℕ) (n : ℕ) → n ≤ length text → length text - length (drop n text) ≡ n
left_at text n h = omega (arith, h, length-drop n text)

-- a flaw in what is left of a text is one in the text
pub flaw_further : (text : List ℕ) (count : ℕ) (flaw : Flaw) → count ≤ length text → IsFlawIn (drop count text) flaw → IsFlawIn text flaw
flaw_further text count (Escape left) h (few, stands) = grind (arith, common_steps, h, few, stands)
flaw_further text count flaw h f = f

-- what follows a list of items that is over is nothing, or begins with a backslash
pub end_stands : (cursor : Cursor) → IsTrue (at_end (unread cursor)) → (length (unread cursor) ≡ 0 → ⊥) → HasOneAt cursor.whole.now cursor.at "\\"
end_stands cursor h some = stands_at cursor "\\" (go (unread cursor) h some)
  where
    go : (text : List ℕ) → at_end text ≡ true → (length text ≡ 0 → ⊥) → begins "\\" text ≡ true
    go text h some = grind (arith, nat_tests)

-- the text between two cursors, without the byte before the second
module _ (old new : Cursor) (end start : ℕ) (text : List ℕ) (same : new.whole ≡ old.whole) (last : end ≡ new.at) (first : start ≡ old.at)
    (read : text ≡ unread old) where
  pub inside_read : take (end - start - 1) text ≡ inside_of (unread old) (unread new)
  inside_read = rw read (ap (λ n. take n (unread old)) size)
    where
      size : end - start - 1 ≡ length (unread old) - length (unread new) - 1
      size = omega (arith, old.within, new.within, last, first, ap (λ w. length w.now) same, length-drop old.at old.whole.now, length-drop new.at new.whole.now)

  -- it is as long as what is read, but for that byte
  pub inside_size : length (unread new) < length (unread old) → length (unread new) + (end - start - 1) + 1 ≡ length (unread old)
  inside_size less =
      omega (arith, less, old.within, new.within, last, first, ap (λ w. length w.now) same, length-drop old.at old.whole.now, length-drop new.at new.whole.now)

  pub mistakable_read : (b : Bool) → is_mistakable (take (end - start - 1) text) ≡ b → is_mistakable (inside_of (unread old) (unread new)) ≡ b
  mistakable_read b h = ap is_mistakable (sym inside_read) ∙ h

pub bracket_is : (text : List ℕ) → begins "[" text ≡ true → bracket_at text ≡ inside_at text (drop 1 text)
unfolding bracket_at
bracket_is text h = rw h refl
