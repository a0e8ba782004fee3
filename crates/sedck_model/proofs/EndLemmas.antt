-- Ends of matches, and parts of texts that are matched.
use Rattle.sedck_model.proofs.Common.{◌≡◌, ℕ, zero, suc, ◌<◌, ◌≤◌, List, [], ◌∷◌, ◌++◌, length, get_or, take, drop, map, Option, None, Result, Ok, Err, inl, inr, refl, sym, ap, ◌∙◌, subst, arith, length-append, append_assoc, ◌↔◌, Contains, IfOk, replicate, All, fun_ext, take-append-drop, Contains-get_or, Tree, no_groups, Span, Spot, Reached, reached, beginning, groups_of, span_text, Leads, AreEnds, HasPartIn, AreLed, AreWithin}
use Rattle.std.proofs.lemmas.List.{drop_at}
use Rattle.sedck_model.proofs.ListLemmas.{none_contained, first_contained, later_contained, contained_cases}
use Rattle.sedck_model.proofs.LedLemmas.{has_one}
use Rattle.sedck_model.proofs.GroupLemmas.{between_length}

pub if_ok_both : {X E : Type 0} (r : Result X E) (P Q R : X → Type 0) → ((x : X) → P x → Q x → R x) → IfOk r P → IfOk r Q → IfOk r R
if_ok_both (Ok x) P Q R both p q = both x p q
if_ok_both (Err e) P Q R both p q = p

pub mapped : {X Y : Type 0} (f : X → Y) (xs : List X) (y : Y) → Contains (map f xs) y ↔ ((x : X) × Contains xs x × (y ≡ f x))
mapped f [] y = (λ h. absurd (none_contained y h), λ (x, there, _). absurd (none_contained x there))
mapped f (a ∷ xs) y = (
  λ h. elim (contained_cases (f a) y (map f xs) h) [
    | inl is ↦ (a, first_contained a xs, is)
    | inr later ↦ let (x, there, is) = (mapped f xs y).0 later in (x, later_contained a x xs there, is)
  ],
  λ (x, there, is). elim (contained_cases a x xs there) [
    | inl same ↦ subst (Contains (f a ∷ map f xs)) (sym (is ∙ ap f same)) (first_contained (f a) (map f xs))
    | inr later ↦ later_contained (f a) y (map f xs) ((mapped f xs y).1 (x, later, is))
  ],
)

nothing_at : (n k : ℕ) → get_or (replicate {A = Option Span} n None) k None ≡ None
nothing_at zero k = refl
nothing_at (suc n) zero = refl
nothing_at (suc n) (suc k) = nothing_at n k

pub start_is : (text : List ℕ) (at n : ℕ) → reached text (record { at = at; groups = replicate n None }) ≡ beginning text at
start_is text at n =
    let groups : groups_of text (replicate n None) ≡ no_groups = fun_ext (λ k. ap (span_text text) (nothing_at n k)) in
    λ i. record { rest = drop at text; groups = groups i }

pub ends_are : (t : Tree) (text : List ℕ) (at : ℕ) (start : Spot) (spots : List Spot) → reached text start ≡ beginning text at
    → AreLed (Leads t) text (start ∷ []) spots → AreEnds text t (beginning text at) spots
ends_are t text at start spots is led to =
    let one = has_one (λ (s : Spot). Leads t (reached text s) to) start in
    let ends = mapped (reached text) spots to in (
      λ leads. ends.1 ((led to).0 (one.1 (subst (λ (x : Reached). Leads t x to) (sym is) leads))),
      λ there. subst (λ (x : Reached). Leads t x to) is (one.0 ((led to).1 (ends.0 there))),
    )

pub places_are : (t : Tree) (text : List ℕ) (start : Spot) (spots : List Spot) → start.at ≤ length text → AreLed (Leads t) text (start ∷ []) spots
    → AreWithin text spots → All (λ s. (start.at ≤ s.at) × (s.at ≤ length text)) spots
places_are t text start spots first led within k d below =
    let s = get_or spots k d in
    let there = Contains-get_or spots k d below in
    let last = within s there in
    let leads = (has_one (λ (x : Spot). Leads t (reached text x) (reached text s)) start).0 ((led (reached text s)).1 (s, there, refl)) in
    let size = between_length text leads.0 start.at s.at first last leads.1 in (omega arith, last)

-- a part that begins at the offset is in the language
abbrev pub BeginsMatch : Tree → List ℕ → ℕ → Type 0
BeginsMatch t text at = (to : Reached) × Leads t (beginning text at) to

pub some_end : (t : Tree) (text : List ℕ) (at : ℕ) (spots : List Spot) → AreEnds text t (beginning text at) spots → (0 < length spots) ↔ BeginsMatch t text at
some_end t text at [] ends = (λ h. absurd (omega arith), λ (to, leads). absurd (none_contained to ((ends to).0 leads)))
some_end t text at (s ∷ spots) ends = (
  λ h. (reached text s, (ends (reached text s)).1 (first_contained (reached text s) (map (reached text) spots))),
  λ h. omega arith,
)

pub part_begins : (t : Tree) (text : List ℕ) → HasPartIn t text → (at : ℕ) × (at ≤ length text) × BeginsMatch t text at
part_begins t text (before, found, after, cut, (e, match)) =
    let whole : text ≡ before ++ (found ++ after) = cut ∙ append_assoc before found after in (
      length before,
      omega (arith, ap length whole, length-append before (found ++ after)),
      (record { rest = after; groups = e }, (found, ap (drop (length before)) whole ∙ drop_at before (found ++ after) (length before) refl, match)),
    )

pub begins_part : (t : Tree) (text : List ℕ) (at : ℕ) → BeginsMatch t text at → HasPartIn t text
begins_part t text at (to, (w, cut, match)) = (
  take at text,
  w,
  to.rest,
  sym (take-append-drop at text) ∙ (ap (λ x. take at text ++ x) cut ∙ sym (append_assoc (take at text) w to.rest)),
  (to.groups, match),
)
