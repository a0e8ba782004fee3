-- Spots that a comparison finds the same are the same.
use Rattle.sedck_model.proofs.Common.{◌≡◌, Bool, true, eqb, List, [], ◌∷◌, Option, Some, None, refl, ap, ◌∙◌, subst, eqb-true, false≢true, Span, Spot}
use Rattle.std.specs.Prelude.{◌&&◌}
use Rattle.std.specs.Option.{option_eq}
use Rattle.std.proofs.lemmas.Bool.{eq-eqb}
use lib.Pointwise.{pointwise}
use Rattle.sedck_expressions.proofs.ReadLemmas.{and_left}

abbrev Tells : {X : Type 0} → (X → X → Bool) → Type 0
Tells {X} same = (a b : X) → same a b ≡ true → a ≡ b

option_tells : {X : Type 0} (same : X → X → Bool) → Tells same → Tells (option_eq same)
option_tells same tells None None h = refl
option_tells same tells None (Some b) h = absurd (false≢true h)
option_tells same tells (Some a) None h = absurd (false≢true h)
option_tells same tells (Some a) (Some b) h = ap Some (tells a b h)

list_tells : {X : Type 0} (same : X → X → Bool) → Tells same → Tells (pointwise same)
list_tells same tells [] [] h = refl
list_tells same tells [] (b ∷ bs) h = absurd (false≢true h)
list_tells same tells (a ∷ as') [] h = absurd (false≢true h)
list_tells same tells (a ∷ as') (b ∷ bs) h =
    let parts = and_left (same a b) (pointwise same as' bs) h in
    let first = tells a b parts.0 in
    let rest = list_tells same tells as' bs parts.1 in
    λ i. first i ∷ rest i

abbrev same_span : Span → Span → Bool
same_span a b = eqb a.start b.start && eqb a.end b.end

span_tells : Tells same_span
span_tells a b h =
    let parts = and_left (eqb a.start b.start) (eqb a.end b.end) h in
    let start = eqb-true a.start b.start parts.0 in
    let end = eqb-true a.end b.end parts.1 in
    λ i. record { start = start i; end = end i }

pub same_spot : (a b : Spot) → (eqb a.at b.at && pointwise (option_eq same_span) a.groups b.groups) ≡ true → a ≡ b
same_spot a b h =
    let parts = and_left (eqb a.at b.at) (pointwise (option_eq same_span) a.groups b.groups) h in
    let place = eqb-true a.at b.at parts.0 in
    let groups = list_tells (option_eq same_span) (option_tells same_span span_tells) a.groups b.groups parts.1 in
    λ i. record { at = place i; groups = groups i }

list_refl : {X : Type 0} (same : X → X → Bool) → ((a : X) → same a a ≡ true) → (xs : List X) → pointwise same xs xs ≡ true
list_refl same each [] = refl
list_refl same each (x ∷ xs) = ap (λ b. b && pointwise same xs xs) (each x) ∙ list_refl same each xs

option_refl : {X : Type 0} (same : X → X → Bool) → ((a : X) → same a a ≡ true) → (x : Option X) → option_eq same x x ≡ true
option_refl same each None = refl
option_refl same each (Some x) = each x

span_refl : (a : Span) → same_span a a ≡ true
span_refl a = ap (λ b. b && eqb a.end a.end) (eq-eqb a.start a.start refl) ∙ eq-eqb a.end a.end refl

-- a comparison of equal spots
pub equal_spots : (a b : Spot) → a ≡ b → (eqb a.at b.at && pointwise (option_eq same_span) a.groups b.groups) ≡ true
equal_spots a b is =
    subst (λ (x : Spot). (eqb a.at x.at && pointwise (option_eq same_span) a.groups x.groups) ≡ true) is
    (ap (λ t. t && pointwise (option_eq same_span) a.groups a.groups) (eq-eqb a.at a.at refl) ∙ list_refl (option_eq same_span) (option_refl same_span span_refl) a.groups)
