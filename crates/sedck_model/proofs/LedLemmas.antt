-- What lists of spots stand for, and where relations lead from them.
use Rattle.sedck_model.proofs.Common.{◌≡◌, ℕ, ◌+◌, ◌<◌, ◌≤◌, List, [], ◌∷◌, ◌++◌, length, get_or, take, Some, None, ◌⊎◌, inl, inr, sym, subst, ◌↔◌, Contains, take_more, take_all, Contains-append_left, Contains-append_right, Contains-append_cases, Contains-get_or, Spot, Reached, reached, Relation, AreLed, IsNext, AreWithin, Adds, AddsLed}
use Rattle.sedck_model.proofs.ListLemmas.{none_contained, first_contained, only_contained}

-- some spot of the list has P
abbrev pub Has : (Spot → Type 0) → List Spot → Type 0
Has P spots = (s : Spot) × Contains spots s × P s

has_none : (P : Spot → Type 0) → Has P [] → ⊥
has_none P (s, there, _) = none_contained s there

pub has_one : (P : Spot → Type 0) (s : Spot) → Has P (s ∷ []) ↔ P s
has_one P s = (λ (x, there, p). subst P (only_contained s x there) p, λ p. (s, first_contained s [], p))

pub has_both : (P : Spot → Type 0) (xs ys : List Spot) → Has P (xs ++ ys) ↔ (Has P xs ⊎ Has P ys)
has_both P xs ys = (
  λ (s, there, p). elim (Contains-append_cases xs ys s there) [ inl left ↦ inl (s, left, p) | inr right ↦ inr (s, right, p) ],
  λ h. elim h [
    | inl (s, there, p) ↦ (s, Contains-append_left xs ys s there, p)
    | inr (s, there, p) ↦ (s, Contains-append_right xs ys s there, p)
  ],
)

pub has_added : (P : Spot → Type 0) (us others vs : List Spot) → Adds us others vs → Has P vs ↔ (Has P us ⊎ Has P others)
has_added P us others vs adds = (
  λ (s, there, p). elim ((adds s).0 there) [ inl left ↦ inl (s, left, p) | inr right ↦ inr (s, right, p) ],
  λ h. elim h [ inl (s, there, p) ↦ (s, (adds s).1 (inl there), p) | inr (s, there, p) ↦ (s, (adds s).1 (inr there), p) ],
)

pub AddsLed-both : (leads : Relation) (text : List ℕ) (old xs us ys vs : List Spot) → AddsLed leads text old xs us → AddsLed leads text us ys vs
    → AddsLed leads text old (xs ++ ys) vs
AddsLed-both leads text old xs us ys vs first second to =
    let both = has_both (λ s. leads (reached text s) to) xs ys in (
      λ h. elim ((second to).0 h) [
        | inl before ↦ elim ((first to).0 before) [ inl kept ↦ inl kept | inr led ↦ inr (both.1 (inl led)) ]
        | inr led ↦ inr (both.1 (inr led))
      ],
      λ h. elim h [
        | inl kept ↦ (second to).1 (inl ((first to).1 (inl kept)))
        | inr led ↦ elim (both.0 led) [
          | inl left ↦ (second to).1 (inl ((first to).1 (inr left)))
          | inr right ↦ (second to).1 (inr right)
        ]
      ],
    )

pub AddsLed-more : (leads : Relation) (text : List ℕ) (old from us vs : List Spot) (i : ℕ) (d : Spot) → i < length from
    → AddsLed leads text old (take i from) us → AddsLed leads text us (get_or from i d ∷ []) vs → AddsLed leads text old (take (i + 1) from) vs
AddsLed-more leads text old from us vs i d below first second =
    subst (λ xs. AddsLed leads text old xs vs) (sym (take_more from i d below))
    (AddsLed-both leads text old (take i from) us (get_or from i d ∷ []) vs first second)

pub AddsLed-all : (leads : Relation) (text : List ℕ) (old from us : List Spot) (i : ℕ) → length from ≤ i → AddsLed leads text old (take i from) us
    → AddsLed leads text old from us
AddsLed-all leads text old from us i end h = subst (λ xs. AddsLed leads text old xs us) (take_all i from end) h

pub AddsLed-next : (leads : Relation) (text : List ℕ) (s x : Spot) (us vs : List Spot) → IsNext leads text s (Some x) → Adds us (x ∷ []) vs
    → AddsLed leads text us (s ∷ []) vs
AddsLed-next leads text s x us vs next adds to =
    let added = has_added (λ y. to ≡ reached text y) us (x ∷ []) vs adds in
    let here = has_one (λ y. to ≡ reached text y) x in
    let led = has_one (λ y. leads (reached text y) to) s in (
      λ h. elim (added.0 h) [ inl old ↦ inl old | inr new ↦ inr (led.1 ((next.1 to).1 (here.0 new))) ],
      λ h. elim h [ inl old ↦ added.1 (inl old) | inr new ↦ added.1 (inr (here.1 ((next.1 to).0 (led.0 new)))) ],
    )

pub AddsLed-stay : (leads : Relation) (text : List ℕ) (s : Spot) (us : List Spot) → IsNext leads text s None → AddsLed leads text us (s ∷ []) us
AddsLed-stay leads text s us none to = (
  λ h. inl h,
  λ h. elim h [ inl old ↦ old | inr new ↦ absurd (none to ((has_one (λ y. leads (reached text y) to) s).0 new)) ],
)

pub AreLed-from_adds : (leads : Relation) (text : List ℕ) (from us : List Spot) → AddsLed leads text [] from us → AreLed leads text from us
AreLed-from_adds leads text from us adds to = (
  λ led. (adds to).1 (inr led),
  λ there. elim ((adds to).0 there) [ inl none ↦ absurd (has_none (λ s. to ≡ reached text s) none) | inr led ↦ led ],
)

pub AreLed-same : (a b : Relation) (text : List ℕ) (from us : List Spot) → ((x y : Reached) → a x y ↔ b x y) → AreLed a text from us → AreLed b text from us
AreLed-same a b text from us same led to = (
  λ (s, there, leads). (led to).0 (s, there, (same (reached text s) to).1 leads),
  λ among. let (s, there, leads) = (led to).1 among in (s, there, (same (reached text s) to).0 leads),
)

pub AreWithin-one : (text : List ℕ) (s : Spot) → s.at ≤ length text → AreWithin text (s ∷ [])
AreWithin-one text s within x there = subst (λ (y : Spot). y.at ≤ length text) (sym (only_contained s x there)) within

pub AreWithin-added : (text : List ℕ) (us others vs : List Spot) → Adds us others vs → AreWithin text us → AreWithin text others → AreWithin text vs
AreWithin-added text us others vs adds first second s there = elim ((adds s).0 there) [ inl old ↦ first s old | inr other ↦ second s other ]

pub AreWithin-at : (text : List ℕ) (spots : List Spot) (i : ℕ) (d : Spot) → i < length spots → AreWithin text spots → (get_or spots i d).at ≤ length text
AreWithin-at text spots i d below within = within (get_or spots i d) (Contains-get_or spots i d below)
