-- An expression without a backslash has no group and no reference, so it isn't misjudged.
use Rattle.sedck_expressions.proofs.Common.{◌≡◌, ℕ, suc, ◌+◌, Bool, true, false, List, [], ◌∷◌, ◌++◌, length, refl, sym, ap, ◌∙◌, arith, ◌==◌, ◌||◌, not, nat_lt, if◌then◌else◌, false≢true, nat_tests, Tree, Trees, Byte, Any, Set, Start, End, Maybe, Group, Ref, Seq, Repeat, Nil, Then, Level, Whole, Inside, Position, behind, SpellsItem, SpellsItems, SpellsList, has_part, is_reference, is_anchor, repeats_anchor, is_misjudged, prefix_len}
use Rattle.sedck_text.specs.Text.{is_in}
use Rattle.sedck_expressions.proofs.NumberedGroups.{is_in-neither}

-- the bytes before the first backslash are fewer than all exactly where there is one
pub run_tells : (text : List ℕ) → nat_lt (prefix_len (λ b. not (b == 92)) text) (length text) ≡ is_in 92 text
run_tells [] = refl
run_tells (b ∷ bs) = go (b == 92) (prefix_len (λ b. not (b == 92)) bs) (run_tells bs)
  where
    go : (same : Bool) (run : ℕ) → nat_lt run (length bs) ≡ is_in 92 bs → nat_lt (if not same then 1 + run else 0) (suc (length bs)) ≡ (same || is_in 92 bs)
    go true run rest = grind (arith, nat_tests)
    go false run rest = grind (arith, nat_tests, rest)

abbrev IsPlain : Tree → Type 0
IsPlain t = (has_part is_reference t ≡ false) × (has_part is_anchor t ≡ false) × (has_part repeats_anchor t ≡ false)

before : (u v text : List ℕ) → text ≡ u ++ v → is_in 92 text ≡ false → (is_in 92 u ≡ false) × (is_in 92 v ≡ false)
before u v text cut none = is_in-neither 92 u v (sym (ap (is_in 92) cut) ∙ none)

abbrev is_whole : Level → Bool
is_whole Whole = true
is_whole Inside = false

mutual
  plain_item : (position : Position) (text rest : List ℕ) (t : Tree) → SpellsItem Whole position text rest t → is_in 92 text ≡ false → IsPlain t
  plain_item position text rest (Byte c) h none = (refl, refl, refl)
  plain_item position text rest Any h none = (refl, refl, refl)
  plain_item position text rest (Set bytes) h none = (refl, refl, refl)
  plain_item position text rest Start h none = (refl, refl, refl)
  plain_item position text rest End h none = (refl, refl, refl)
  plain_item position text rest (Maybe c) h none = absurd (false≢true (sym (ap is_whole h.0)))
  plain_item position text rest (Group k body) h none = absurd (false≢true (sym none ∙ ap (is_in 92) h.1))
  plain_item position text rest (Ref k) h none = absurd (false≢true (sym none ∙ ap (is_in 92) h.2))
  plain_item position text rest (Repeat body least most) (u, v, cut, can, item, count) none =
      let plain = plain_item position u (v ++ rest) body item (before u v text cut none).0 in
      (plain.0, plain.1, rw (plain.1, plain.2) refl)
  plain_item position text rest (Seq ts) h none = absurd h

  plain_items : (position : Position) (text : List ℕ) (ts : Trees) → SpellsItems Whole position text ts → is_in 92 text ≡ false → IsPlain (Seq ts)
  plain_items position text Nil h none = (refl, refl, refl)
  plain_items position text (Then t ts) (u, v, cut, item, items) none =
      let parts = before u v text cut none in
      let plain = plain_item position u v t item parts.0 in
      let more = plain_items (behind position t) v ts items parts.1 in
      (rw (plain.0, more.0) refl, rw (plain.1, more.1) refl, rw (plain.2, more.2) refl)

pub without_backslash : (text : List ℕ) (t : Tree) → SpellsList Whole text t → is_in 92 text ≡ false → is_misjudged t ≡ false
without_backslash text (Seq ts) h none = let plain = plain_items Position.First text ts h none in rw (plain.0, plain.2) refl
without_backslash text t h none = absurd h
