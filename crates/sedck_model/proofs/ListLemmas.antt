-- Lists of spots as sets.
use Rattle.sedck_model.proofs.Common.{◌≡◌, ℕ, zero, suc, ◌+◌, ◌<◌, List, [], ◌∷◌, ◌++◌, length, get_or, take, ◌⊎◌, inl, inr, refl, sym, subst, arith, Contains, take_more, Contains-append_left, Contains-append_right, Contains-append_cases, Spot, Adds, IsWithout}

module _ {X : Type 0} where
  pub none_contained : (x : X) → Contains [] x → ⊥
  none_contained x (k, below, _) = omega arith

  pub first_contained : (x : X) (xs : List X) → Contains (x ∷ xs) x
  first_contained x xs = (0, omega arith, refl)

  pub later_contained : (x y : X) (xs : List X) → Contains xs y → Contains (x ∷ xs) y
  later_contained x y xs (k, below, is) = (suc k, omega arith, is)

  pub contained_cases : (x y : X) (xs : List X) → Contains (x ∷ xs) y → (y ≡ x) ⊎ Contains xs y
  contained_cases x y xs (zero, below, is) = inl (sym is)
  contained_cases x y xs (suc k, below, is) = inr (k, omega arith, is)

  pub only_contained : (x y : X) → Contains (x ∷ []) y → y ≡ x
  only_contained x y h = elim (contained_cases x y [] h) [ inl same ↦ same | inr later ↦ absurd (none_contained y later) ]

pub Adds-kept : (xs : List Spot) (x : Spot) → Contains xs x → Adds xs (x ∷ []) xs
Adds-kept xs x has s = (λ h. inl h, λ h. elim h [ inl old ↦ old | inr other ↦ subst (Contains xs) (sym (only_contained x s other)) has ])

pub Adds-both : (xs ys zs us vs : List Spot) → Adds xs ys us → Adds us zs vs → Adds xs (ys ++ zs) vs
Adds-both xs ys zs us vs first second s = (
  λ h. elim ((second s).0 h) [
    | inl before ↦ elim ((first s).0 before) [ inl old ↦ inl old | inr other ↦ inr (Contains-append_left ys zs s other) ]
    | inr other ↦ inr (Contains-append_right ys zs s other)
  ],
  λ h. elim h [
    | inl old ↦ (second s).1 (inl ((first s).1 (inl old)))
    | inr others ↦ elim (Contains-append_cases ys zs s others) [
      | inl other ↦ (second s).1 (inl ((first s).1 (inr other)))
      | inr other ↦ (second s).1 (inr other)
    ]
  ],
)

-- the items up to the next one, in a loop
pub Adds-more : (xs others us vs : List Spot) (i : ℕ) (d : Spot) → i < length others → Adds xs (take i others) us → Adds us (get_or others i d ∷ []) vs
    → Adds xs (take (i + 1) others) vs
Adds-more xs others us vs i d below first second =
    subst (λ ys. Adds xs ys vs) (sym (take_more others i d below)) (Adds-both xs (take i others) (get_or others i d ∷ []) us vs first second)

-- the next one is kept
pub without_kept : (xs others left : List Spot) (x : Spot) → IsWithout xs others left → (Contains others x → ⊥) → IsWithout (xs ++ x ∷ []) others (left ++ x ∷ [])
without_kept xs others left x before apart = record {
  only = λ s there.
      elim (Contains-append_cases left (x ∷ []) s there) [
        | inl old ↦ Contains-append_left xs (x ∷ []) s (before.only s old)
        | inr one ↦ Contains-append_right xs (x ∷ []) s one
      ];
  new = λ s there other.
      elim (Contains-append_cases left (x ∷ []) s there) [
        | inl old ↦ before.new s old other
        | inr one ↦ apart (subst (Contains others) (only_contained x s one) other)
      ];
  all = λ s there.
      elim (Contains-append_cases xs (x ∷ []) s there) [
        | inl old ↦ elim (before.all s old) [ inl other ↦ inl other | inr kept ↦ inr (Contains-append_left left (x ∷ []) s kept) ]
        | inr one ↦ inr (Contains-append_right left (x ∷ []) s one)
      ];
}

-- the next one is left out
pub without_left : (xs others left : List Spot) (x : Spot) → IsWithout xs others left → Contains others x → IsWithout (xs ++ x ∷ []) others left
without_left xs others left x before has = record {
  only = λ s there. Contains-append_left xs (x ∷ []) s (before.only s there);
  new = before.new;
  all = λ s there.
      elim (Contains-append_cases xs (x ∷ []) s there) [
        | inl old ↦ before.all s old
        | inr one ↦ inl (subst (Contains others) (sym (only_contained x s one)) has)
      ];
}
