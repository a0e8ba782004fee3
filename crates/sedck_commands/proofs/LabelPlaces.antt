-- What a map of labels' places has when one more item is read.
use Rattle.sedck_commands.proofs.Common.{◌≡◌, ℕ, zero, suc, Bool, true, false, cond, List, [], ◌∷◌, ◌++◌, length, Option, Some, None, refl, ap, sym, ◌∙◌, inl, inr, ◌⊎◌, slice_get, Bor, HashMap, both_ways, NoAddress, Label, Known, Item, Written, HasLabels, label_place}
use Rattle.std.specs.Str.{bytes_eq}
use Rattle.std.proofs.lemmas.Slice.Eq.{bytes_eq-Decides}

pub get_front : {A : Type 0} (xs ys : List A) (i : ℕ) (y : A) → slice_get xs i ≡ Some y → slice_get (xs ++ ys) i ≡ Some y
get_front [] ys i y h = absurd (cc h)
get_front (x ∷ xs) ys zero y h = h
get_front (x ∷ xs) ys (suc i) y h = get_front xs ys i y h

pub get_seam : {A : Type 0} (xs ys : List A) (y : A) → slice_get (xs ++ y ∷ ys) (length xs) ≡ Some y
get_seam [] ys y = refl
get_seam (x ∷ xs) ys y = get_seam xs ys y

get_push : {A : Type 0} (xs : List A) (x : A) (i : ℕ) (y : A) → slice_get (xs ++ x ∷ []) i ≡ Some y → (slice_get xs i ≡ Some y) ⊎ ((i ≡ length xs) × (x ≡ y))
get_push [] x zero y h = inr (refl, cc h)
get_push [] x (suc i) y h = absurd (cc h)
get_push (z ∷ xs) x zero y h = inl h
get_push (z ∷ xs) x (suc i) y h = elim (get_push xs x i y h) [ inl g ↦ inl g | inr g ↦ inr (ap suc g.0, g.1) ]

-- what the new map has for a label, by whether it is the new one
label_cases : (b : Bool) {x y : Option ℕ} {z : Option ℕ} → z ≡ cond b x y → ((b ≡ true) × (z ≡ x)) ⊎ ((b ≡ false) × (z ≡ y))
label_cases true e = inl (refl, e)
label_cases false e = inr (refl, e)

module _ {S : Type 0} (old new : HashMap (Bor (List ℕ)) ℕ S) (items : List Item) (h : HasLabels old items) where
  pub labels_label : (name : List ℕ) → label_place old name ≡ None
      → ((q : List ℕ) → label_place new q ≡ cond (bytes_eq name q) (Some (length items)) (label_place old q))
      → HasLabels new (items ++ Written NoAddress false (Known (Label name)) ∷ [])
  labels_label name none n = record {
    at = λ q i g. elim (label_cases (bytes_eq name q) (n q)) [
      | inl k ↦ (
          let place : i ≡ length items = cc (g, k.1) in
          rw (place, ← (bytes_eq-Decides name q).0 k.0) (get_seam items [] (Written NoAddress false (Known (Label name)))))
      | inr k ↦ get_front items _ i _ (h.at q i (sym k.1 ∙ g))
    ];
    found = λ q i g. elim (get_push items _ i _ g) [
      | inl k ↦ (
          let here : label_place old q ≡ Some i = h.found q i k in
          elim (label_cases (bytes_eq name q) (n q)) [
            | inl m ↦ (let same : name ≡ q = (bytes_eq-Decides name q).0 m.0 in absurd (cc (ap (label_place old) same, here, none)))
            | inr m ↦ m.1 ∙ here
          ])
      | inr k ↦ (
          let same : name ≡ q = cc k.1 in
          elim (label_cases (bytes_eq name q) (n q)) [
            | inl m ↦ m.1 ∙ ap Some (sym k.0)
            | inr m ↦ absurd (both_ways _ m.0 ((bytes_eq-Decides name q).1 same))
          ])
    ];
  }

  pub labels_other : (x : Item) → ((q : List ℕ) → x ≡ Written NoAddress false (Known (Label q)) → ⊥)
      → ((q : List ℕ) → label_place new q ≡ label_place old q) → HasLabels new (items ++ x ∷ [])
  labels_other x other n = record {
    at = λ q i g. get_front items _ i _ (h.at q i (sym (n q) ∙ g));
    found = λ q i g. n q ∙ elim (get_push items x i _ g) [ inl k ↦ h.found q i k | inr k ↦ absurd (other q k.1) ];
  }
