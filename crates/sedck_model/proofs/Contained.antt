-- What a list that is mapped contains, and the trees of a list of expressions.
use Rattle.sedck_model.proofs.Common.{◌≡◌, ◌∙◌, inl, inr, ℕ, ◌+◌, ◌<◌, List, [], ◌∷◌, ◌++◌, length, take, get_or, map, refl, sym, ap, subst, arith, take_more, map-append, Contains-get_or, Bor, tree, Bre, trees_in}
use Rattle.std.proofs.Common.{Contains}
use Rattle.sedck_script.proofs.SortedNames.{Contains-cons_cases, Contains-cons_more}

pub contains_mapped : {X Y : Type 0} → (f : X → Y) (xs : List X) (y : Y) → Contains (map f xs) y → (x : X) × Contains xs x × (f x ≡ y)
contains_mapped f [] y c = let none : c.0 < 0 = c.1 in absurd (omega arith)
contains_mapped f (x ∷ xs) y c =
    elim (Contains-cons_cases (f x) (map f xs) y c) [
      | inl is ↦ (x, (0, omega arith, refl), is)
      | inr more ↦ let found = contains_mapped f xs y more in (found.0, Contains-cons_more x xs found.0 found.1, found.2)
    ]

pub mapped_contains : {X Y : Type 0} → (f : X → Y) (xs : List X) (x : X) → Contains xs x → Contains (map f xs) (f x)
mapped_contains f [] x c = let none : c.0 < 0 = c.1 in absurd (omega arith)
mapped_contains f (y ∷ ys) x c =
    elim (Contains-cons_cases y ys x c) [
      | inl is ↦ subst (λ z. Contains (f y ∷ map f ys) z) (ap f is) (0, omega arith, refl)
      | inr more ↦ Contains-cons_more (f y) (map f ys) (f x) (mapped_contains f ys x more)
    ]

-- the trees up to one more expression
pub one_more_tree : (xs : List (Bor Bre)) (i : ℕ) (x : Bor Bre) → i < length xs → x ≡ get_or xs i x → trees_in (take (i + 1) xs) ≡ trees_in (take i xs) ++ tree x.now ∷ []
one_more_tree xs i x lt is =
    ap trees_in (take_more xs i x lt) ∙ map-append (λ e. tree e.now) (take i xs) (get_or xs i x ∷ []) ∙ ap (λ y. trees_in (take i xs) ++ tree y.now ∷ []) (sym is)

pub tree_among : (xs : List (Bor Bre)) (i : ℕ) (x : Bor Bre) → i < length xs → x ≡ get_or xs i x → Contains (trees_in xs) (tree x.now)
tree_among xs i x lt is = mapped_contains (λ e. tree e.now) xs x (subst (λ y. Contains xs y) (sym is) (Contains-get_or xs i x lt))
