-- A sum over the groups that a test picks: by their numbers, and by the items of an expression.
use Rattle.sedck_bre.proofs.Common.{◌≡◌, ℕ, ◌+◌, ◌<◌, ◌≤◌, Bool, true, false, List, [], ◌∷◌, length, filter, refl, arith, if◌then◌else◌, nat_tests, Tree, Trees, Group, Nil, Then, groups_in, groups_in_all, Groups, text_of, CountsFrom, is_group, is_item, texts_length, CountsFrom-left, CountsFrom-right, false≢true, ◌==◌}

-- the sum over the numbers that are picked
abbrev pub sum_of : (ℕ → Bool) → (ℕ → ℕ) → List ℕ → ℕ
sum_of picked f [] = 0
sum_of picked f (k ∷ ks) = (if picked k then f k else 0) + sum_of picked f ks

-- the sum over the items that are groups and are picked
abbrev pub item_sum : (ℕ → Bool) → (ℕ → ℕ) → Tree → ℕ
item_sum picked f (Group k _) = if picked k then f k else 0
item_sum picked f _ = 0

abbrev pub items_sum : (ℕ → Bool) → (ℕ → ℕ) → Trees → ℕ
items_sum picked f Nil = 0
items_sum picked f (Then t ts) = item_sum picked f t + items_sum picked f ts

-- one number less is picked
abbrev pub without : ℕ → (ℕ → Bool) → ℕ → Bool
without j picked k = if k == j then false else picked k

pub texts_sum : (e : Groups) (picked : ℕ → Bool) (ks : List ℕ) → texts_length e (filter picked ks) ≡ sum_of picked (λ k. length (text_of e k)) ks
texts_sum e picked [] = refl
texts_sum e picked (k ∷ ks) = grind (arith, texts_sum e picked ks)

pub sum_of-none : (picked : ℕ → Bool) (f : ℕ → ℕ) (ks : List ℕ) → ((k : ℕ) → picked k ≡ true → ⊥) → sum_of picked f ks ≡ 0
sum_of-none picked f [] none = refl
sum_of-none picked f (k ∷ ks) none = grind (arith, sum_of-none picked f ks none, none k)

-- a number below a row isn't in it
sum_of-below : (picked : ℕ → Bool) (f : ℕ → ℕ) (n j : ℕ) (ks : List ℕ) → CountsFrom n ks → j < n → sum_of (without j picked) f ks ≡ sum_of picked f ks
sum_of-below picked f n j [] h l = refl
sum_of-below picked f n j (k ∷ ks) h l = grind (arith, nat_tests, sum_of-below picked f (n + 1) j ks h.1)

-- a number of a row is in it once
pub sum_of-split : (picked : ℕ → Bool) (f : ℕ → ℕ) (n j : ℕ) (ks : List ℕ) → CountsFrom n ks → n ≤ j → j < n + length ks → picked j ≡ true
    → sum_of picked f ks ≡ f j + sum_of (without j picked) f ks
sum_of-split picked f n j [] h low high p = absurd (omega (arith, low, high))
sum_of-split picked f n j (k ∷ ks) h low high p =
    grind (arith, nat_tests, sum_of-split picked f (n + 1) j ks h.1, sum_of-below picked f (n + 1) j ks h.1)

item_sum-below : (picked : ℕ → Bool) (f : ℕ → ℕ) (t : Tree) (n j : ℕ) → CountsFrom n (groups_in t) → j < n
    → item_sum (without j picked) f t ≡ item_sum picked f t
item_sum-below picked f t n j h l = grind (arith, nat_tests)

items_sum-below : (picked : ℕ → Bool) (f : ℕ → ℕ) (ts : Trees) (n j : ℕ) → CountsFrom n (groups_in_all ts) → j < n
    → items_sum (without j picked) f ts ≡ items_sum picked f ts
items_sum-below picked f Nil n j h l = refl
items_sum-below picked f (Then t ts) n j h l =
    let others = items_sum-below picked f ts (n + length (groups_in t)) j (CountsFrom-right n (groups_in t) (groups_in_all ts) h) (omega arith) in
    omega (arith, others, item_sum-below picked f t n j (CountsFrom-left n (groups_in t) (groups_in_all ts) h) l)

item_sum-grows : (picked : ℕ → Bool) (f g : ℕ → ℕ) (t : Tree) → ((k : ℕ) → f k ≤ g k) → item_sum picked f t ≤ item_sum picked g t
item_sum-grows picked f g t h = grind (arith, h)

pub items_sum-grows : (picked : ℕ → Bool) (f g : ℕ → ℕ) (ts : Trees) → ((k : ℕ) → f k ≤ g k) → items_sum picked f ts ≤ items_sum picked g ts
items_sum-grows picked f g Nil h = omega arith
items_sum-grows picked f g (Then t ts) h = omega (arith, item_sum-grows picked f g t h, items_sum-grows picked f g ts h)

-- picked alike, the sums are the same
pub items_sum-same : (p q : ℕ → Bool) (f : ℕ → ℕ) (ts : Trees) → ((k : ℕ) → p k ≡ q k) → items_sum p f ts ≡ items_sum q f ts
items_sum-same p q f Nil h = refl
items_sum-same p q f (Then (Group k body) ts) h = grind (arith, h k, items_sum-same p q f ts h)
items_sum-same p q f (Then t ts) h = omega (arith, items_sum-same p q f ts h)

pub items_sum-none : (picked : ℕ → Bool) (f : ℕ → ℕ) (ts : Trees) → ((k : ℕ) → picked k ≡ false) → items_sum picked f ts ≡ 0
items_sum-none picked f Nil none = refl
items_sum-none picked f (Then (Group k body) ts) none = rw (none k) (omega (arith, items_sum-none picked f ts none))
items_sum-none picked f (Then t ts) none = omega (arith, items_sum-none picked f ts none)

item_split : (picked : ℕ → Bool) (f : ℕ → ℕ) (j : ℕ) (t : Tree) (n : ℕ) → CountsFrom n (groups_in t) → picked j ≡ true
    → (item_sum picked f t ≡ (if is_group j t then f j else 0) + item_sum (without j picked) f t) × (is_group j t ≡ true → j < n + length (groups_in t))
item_split picked f j t n h p = grind (arith, nat_tests)

-- a group that is picked and an item is in the sum once
pub items_sum-split : (picked : ℕ → Bool) (f : ℕ → ℕ) (j : ℕ) (ts : Trees) (n : ℕ) → CountsFrom n (groups_in_all ts) → picked j ≡ true
    → is_item j ts ≡ true → items_sum picked f ts ≡ f j + items_sum (without j picked) f ts
items_sum-split picked f j Nil n h p item = absurd (false≢true item)
items_sum-split picked f j (Then t ts) n h p item =
    let more = CountsFrom-right n (groups_in t) (groups_in_all ts) h in
    let first = item_split picked f j t n (CountsFrom-left n (groups_in t) (groups_in_all ts) h) p in
    let below = items_sum-below picked f ts (n + length (groups_in t)) j more in
    grind (arith, nat_tests, first, below, items_sum-split picked f j ts (n + length (groups_in t)) more p)
