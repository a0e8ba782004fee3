-- Groups are numbered in a row.
use Rattle.sedck_expressions.proofs.Common.{◌≡◌, ℕ, zero, suc, ◌+◌, ◌<◌, ◌≤◌, true, false, List, [], ◌∷◌, ◌++◌, length, refl, sym, ap, subst, arith, ◌==◌, ◌||◌, range_with_len, false≢true, nat_tests, list_any-append, Tree, groups_in, is_in, IsWellFormed, CountsFrom}
use Rattle.std.proofs.Common.{◌⊎◌}

pub CountsFrom-left : (n : ℕ) (xs ys : List ℕ) → CountsFrom n (xs ++ ys) → CountsFrom n xs
CountsFrom-left n [] ys h = tt
CountsFrom-left n (x ∷ xs) ys h = (h.0, CountsFrom-left (n + 1) xs ys h.1)

pub CountsFrom-right : (n : ℕ) (xs ys : List ℕ) → CountsFrom n (xs ++ ys) → CountsFrom (n + length xs) ys
CountsFrom-right n [] ys h = grind (arith, h)
CountsFrom-right n (x ∷ xs) ys h = grind (arith, CountsFrom-right (n + 1) xs ys h.1)

pub range_counts : (n count : ℕ) → CountsFrom n (range_with_len n count)
range_counts n zero = tt
range_counts n (suc count) = (refl, range_counts (n + 1) count)

pub counts_range : (n : ℕ) (ks : List ℕ) → CountsFrom n ks → ks ≡ range_with_len n (length ks)
counts_range n [] h = refl
counts_range n (k ∷ ks) h = rw h.0 (ap (λ more. n ∷ more) (counts_range (n + 1) ks h.1))

-- the groups of a well formed tree are numbered in a row
pub are_numbered : (t : Tree) → IsWellFormed t → CountsFrom 1 (groups_in t)
are_numbered t f = subst (CountsFrom 1) (sym f.numbered) (range_counts 1 (length (groups_in t)))

-- a number of the row is one of its length
pub in_row : (n k : ℕ) (ks : List ℕ) → CountsFrom n ks → is_in k ks ≡ true → (n ≤ k) × (k < n + length ks)
in_row n k [] h i = absurd (false≢true i)
in_row n k (j ∷ ks) h i = grind (arith, nat_tests, in_row (n + 1) k ks h.1)

-- and one beside the row isn't in it
pub beside_row : (n k : ℕ) (ks : List ℕ) → CountsFrom n ks → (k < n) ⊎ (n + length ks ≤ k) → is_in k ks ≡ false
beside_row n k ks h beside = grind (arith, in_row n k ks h)

pub is_in-append : (k : ℕ) (xs ys : List ℕ) → is_in k (xs ++ ys) ≡ (is_in k xs || is_in k ys)
is_in-append k xs ys = list_any-append (λ j. j == k) xs ys

pub is_in-right : (k : ℕ) (xs ys : List ℕ) → is_in k ys ≡ true → is_in k (xs ++ ys) ≡ true
is_in-right k xs ys h = grind (arith, is_in-append k xs ys)

pub is_in-left : (k : ℕ) (xs ys : List ℕ) → is_in k xs ≡ true → is_in k (xs ++ ys) ≡ true
is_in-left k xs ys h = grind (arith, is_in-append k xs ys)

pub is_in-cases : (k : ℕ) (xs ys : List ℕ) → is_in k (xs ++ ys) ≡ true → (is_in k xs ≡ true) ⊎ (is_in k ys ≡ true)
is_in-cases k xs ys h = grind (arith, is_in-append k xs ys)

pub is_in-neither : (k : ℕ) (xs ys : List ℕ) → is_in k (xs ++ ys) ≡ false → (is_in k xs ≡ false) × (is_in k ys ≡ false)
is_in-neither k xs ys h = grind (arith, is_in-append k xs ys)

pub CountsFrom-join : (n : ℕ) (xs ys : List ℕ) → CountsFrom n xs → CountsFrom (n + length xs) ys → CountsFrom n (xs ++ ys)
CountsFrom-join n [] ys h k = grind (arith, k)
CountsFrom-join n (x ∷ xs) ys h k = let more : CountsFrom ((n + 1) + length xs) ys = grind (arith, k) in (h.0, CountsFrom-join (n + 1) xs ys h.1 more)
