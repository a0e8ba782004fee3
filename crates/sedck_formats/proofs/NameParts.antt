-- The last part that begins by a line, with one part more.
use Rattle.std.proofs.Common.{◌≡◌, ◌∙◌, ◌+◌, ◌≤◌, ◌<◌, ℕ, nat_lt, true, false, List, [], ◌∷◌, ◌++◌, Option, Some, None, sym, subst, string_bytes, refl, ap, arith}
use Rattle.std.proofs.lemmas.Bool.Decides.{nat_tests}
use Rattle.std.proofs.lemmas.List.Elements.{filter-append}
use Rattle.std.specs.List.{filter, last_or}
use Rattle.sedck_report.specs.declared.places.Position.{Position}
use Rattle.sedck_formats.specs.Names.{begins_by, part_at, IsPlaceIn, IsPlace}
use Rattle.sedck_formats.specs.declared.names.Place.{Place}
use Rattle.sedck_formats.specs.declared.names.PartName.{PartName}

last-append : {A : Type 0} (o : Option A) (xs : List A) (x : A) → last_or o (xs ++ (x ∷ [])) ≡ Some x
last-append o [] x = refl
last-append o (y ∷ ys) x = last-append (Some y) ys x

append-nothing : {A : Type 0} (xs : List A) → xs ++ [] ≡ xs
append-nothing [] = refl
append-nothing (x ∷ xs) = ap (λ t. x ∷ t) (append-nothing xs)

kept_one : (line : ℕ) (part : PartName) → begins_by line part ≡ true → filter (begins_by line) (part ∷ []) ≡ part ∷ []
kept_one line part is = rw is refl

left_one : (line : ℕ) (part : PartName) → begins_by line part ≡ false → filter (begins_by line) (part ∷ []) ≡ []
left_one line part is = rw is refl

-- one that begins by the line is the last
pub part_at-more : (line : ℕ) (parts : List PartName) (part : PartName) → begins_by line part ≡ true
    → part_at line (parts ++ (part ∷ [])) ≡ Some part
part_at-more line parts part is =
    let p = begins_by line in
    ap (last_or None) (filter-append p parts (part ∷ []) ∙ ap (λ t. filter p parts ++ t) (kept_one line part is))
    ∙ last-append None (filter p parts) part

-- one that doesn't changes nothing
pub part_at-same : (line : ℕ) (parts : List PartName) (part : PartName) → begins_by line part ≡ false
    → part_at line (parts ++ (part ∷ [])) ≡ part_at line parts
part_at-same line parts part is =
    let p = begins_by line in
    ap (last_or None) (filter-append p parts (part ∷ []) ∙ ap (λ t. filter p parts ++ t) (left_one line part is) ∙ append-nothing (filter p parts))

-- the place in a part that is the last to begin by the line
pub place_more : (whole : List ℕ) (parts : List PartName) (part : PartName) (position : Position) (place : Place)
    → part.line ≤ position.line → place.name.now ≡ string_bytes part.name
    → (1 ≤ part.line → place.line + part.line ≡ position.line + 1) → place.column ≡ position.column
    → IsPlace whole (parts ++ (part ∷ [])) position place
place_more whole parts part position place before name line column =
    let after : nat_lt position.line part.line ≡ false = grind (arith, nat_tests, before) in
    let begins : begins_by position.line part ≡ true = rw after refl in
    (subst (λ (at : Option PartName). IsPlaceIn whole at position place) (sym (part_at-more position.line parts part begins)) (name, line), column)

-- a part that begins behind the line changes no place
pub place_same : (whole : List ℕ) (parts : List PartName) (part : PartName) (position : Position) (place : Place)
    → position.line < part.line → IsPlace whole parts position place → IsPlace whole (parts ++ (part ∷ [])) position place
place_same whole parts part position place after is =
    let is_after : nat_lt position.line part.line ≡ true = grind (arith, nat_tests, after) in
    let behind : begins_by position.line part ≡ false = rw is_after refl in
    (subst (λ (at : Option PartName). IsPlaceIn whole at position place) (sym (part_at-same position.line parts part behind)) is.0, is.1)
