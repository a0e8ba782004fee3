-- Each word for a sed is told of.
use Rattle.std.proofs.Common.{◌≡◌, ◌≤◌, ◌<◌, ◌+◌, ◌∙◌, ◌&&◌, ◌||◌, not, ℕ, Bool, true, false, List, [], ◌∷◌, length, filter, refl, ap, sym, subst, arith}
use Rattle.std.specs.Prelude.{cond, ◌==◌}
use Rattle.std.specs.List.{list_any, range_with_len}
use Rattle.std.proofs.lemmas.Bool.Decides.{nat_tests}
use Rattle.std.proofs.lemmas.List.Folds.{list_any-append, list_any_at}
use Rattle.std.proofs.lemmas.List.FromFn.{length-range_with_len, get_or-range_with_len}
use Rattle.sedck_mentions.specs.Lines.{line_start, is_named_at}
use Rattle.sedck_mentions.specs.Told.{EachIsTold, has_offset, is_on_line, is_covered, is_untold_at, untold}
use Rattle.sedck_mentions.proofs.Starts.{start_of_le}

-- ---- What passes one test and another

split : (q : ℕ → Bool) (b : Bool) (x : ℕ) (xs : List ℕ) → list_any q (cond b (x ∷ xs) xs) ≡ ((b && q x) || list_any q xs)
split q true x xs = refl
split q false x xs = refl

any_kept : (p q : ℕ → Bool) (xs : List ℕ) → list_any q (filter p xs) ≡ list_any (λ x. p x && q x) xs
any_kept p q [] = refl
any_kept p q (x ∷ xs) = split q (p x) x (filter p xs) ∙ ap (λ rest. (p x && q x) || rest) (any_kept p q xs)

both : (a b : Bool) → a ≡ true → b ≡ true → (a && b) ≡ true
both a b first second = ap (λ x. x && b) first ∙ second

from_zero : (i : ℕ) → 0 + i ≡ i
from_zero i = omega arith

one_kept : (p q : ℕ → Bool) (n i : ℕ) → i < n → p i ≡ true → q i ≡ true → list_any q (filter p (range_with_len 0 n)) ≡ true
one_kept p q n i within passes holds =
    any_kept p q (range_with_len 0 n)
    ∙ list_any_at (λ x. p x && q x) (range_with_len 0 n) i 0 (subst (λ k. i < k) (sym (length-range_with_len 0 n)) within)
    (subst (λ x. (p x && q x) ≡ true) (sym (get_or-range_with_len 0 n i 0 within ∙ from_zero i)) (both (p i) (q i) passes holds))

-- ---- An offset is on its line

at_itself : (line offset : ℕ) → line ≤ offset → is_on_line line offset offset ≡ true
at_itself line offset le = grind (arith, nat_tests)

-- ---- Covered, or one of the words

cases : (a b c : Bool) → (not (a || b) ≡ true → c ≡ true) → (a || (b || c)) ≡ true
cases true b c other = refl
cases false true c other = refl
cases false false c other = other refl

pub each_is_told : EachIsTold
each_is_told has_macros file names places offset within named =
    let words = untold has_macros file names places in
    let on = is_on_line (line_start file offset) offset in
    ap (λ told. list_any (has_offset offset) names || told) (list_any-append on places words)
    ∙ cases (list_any (has_offset offset) names) (list_any on places) (list_any on words)
    (λ uncovered.
    one_kept (is_untold_at has_macros file names places) on (length file) offset within
    (both (is_named_at has_macros file offset) (not (is_covered file names places offset)) named uncovered)
    (at_itself (line_start file offset) offset (start_of_le (λ b. not (b == 10)) file offset)))
