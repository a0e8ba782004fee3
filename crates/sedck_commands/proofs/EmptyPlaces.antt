-- Where an empty expression ends.
use Rattle.sedck_commands.proofs.Common.{◌≡◌, ℕ, suc, inl, inr, ◌+◌, true, List, [], ◌∷◌, length, refl, ap, sym, ◌∙◌, arith, false≢true, Place, Pattern, Previous, Expression, Verb, place_patterns, DelimitedExpression, PlaceText, IsPattern, WrittenVerb, Simple, VerbText, has_previous, written_patterns, verb_patterns, EmptyPlace, EmptyVerb}
use Rattle.sedck_commands.specs.Parts as p
use Rattle.sedck_commands.specs.Items as w
use Rattle.sedck_commands.proofs.ReplacementParts.{flags_leave}

empty_end : {d : ℕ} {text e rest : List ℕ} → e ≡ [] → DelimitedExpression d text e rest → text ≡ d ∷ rest
empty_end n (p.ends {rest = rest} h) = ap (λ b. b ∷ rest) h
empty_end n _ = absurd (cc n)

no_expression : {e : List ℕ} {q : Pattern} → q ≡ Previous → IsPattern e q → e ≡ []
no_expression n p.previous = refl
no_expression n (p.expression s) = absurd (cc n)

is_previous : {q : Pattern} → has_previous (q ∷ []) ≡ true → q ≡ Previous
is_previous {q = Previous} h = refl
is_previous {q = Expression tree} h = absurd (false≢true h)

-- an address that is an empty expression ends with its second delimiter
pub emptied_place : {text rest : List ℕ} {q : Place} (size offset : ℕ) → offset + suc (length rest) ≡ size → PlaceText text q rest
    → has_previous (place_patterns q) ≡ true → EmptyPlace size text offset
emptied_place size offset at (p.line n) some = absurd (false≢true some)
emptied_place size offset at (p.last e) some = absurd (false≢true some)
emptied_place {rest = rest} size offset at (p.context {text = text} e x y) some =
    let ended = empty_end (no_expression (is_previous some) y) x.cut in
    inl (rest, ap (λ b. b ∷ text) e ∙ ap (λ t. 47 ∷ t) ended, refl, at)
emptied_place {rest = rest} size offset at (p.custom {delimiter = d} {text = text} e a x y) some =
    let ended = empty_end (no_expression (is_previous some) y) x.cut in
    inr (d, d ∷ text, ap (λ b. b ∷ d ∷ text) e, (rest, ap (λ t. d ∷ t) ended, a, at))

simple_plain : {b : ℕ} {v : Verb} → Simple b v → has_previous (verb_patterns v) ≡ true → ⊥
simple_plain w.line_number h = false≢true h
simple_plain _ h = false≢true h

-- the same, said of the text that begins with the verb
pub emptied_verb : {text rest : List ℕ} {v : WrittenVerb} (size offset : ℕ) → offset + length text ≡ size + 2 → VerbText text v rest
    → has_previous (written_patterns v) ≡ true → EmptyVerb size text offset
emptied_verb size offset at (w.substitute {delimiter = d} {text = text} {behind = rest} e a x q z g f) some =
    let ended = empty_end (no_expression (sym (flags_leave f).0 ∙ is_previous some) q) x.cut in
    (d, d ∷ text, ap (λ b. b ∷ d ∷ text) e, (rest, ap (λ t. d ∷ t) ended, a, omega (arith, at, ap length ended)))
emptied_verb size offset at (w.simple x e) some = absurd (simple_plain x some)
emptied_verb size offset at _ some = absurd (false≢true some)
