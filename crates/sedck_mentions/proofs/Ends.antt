-- How far spans reach.
use Rattle.std.proofs.Common.{◌≡◌, ◌<◌, ◌+◌, ◌∙◌, ◌||◌, ℕ, false, List, [], ◌∷◌, length, get_or, drop, map, max, refl, ap, sym, arith}
use Rattle.std.specs.Prelude.{nat_lt}
use Rattle.std.specs.List.{list_any}
use Rattle.std.proofs.lemmas.Bool.Decides.{nat_tests}
use Rattle.std.proofs.lemmas.List.{at_drop_more}
use Rattle.sedck_mentions.specs.Told.{has_offset, is_on_line}
use Rattle.sedck_mentions.specs.Private.Pass.{end_if_at, end_at, end_if_below, end_below, place_span}
use Rattle.sedck_mentions.specs.declared.spans.Span.{Span}

-- ---- One offset more

below_more : (offset : ℕ) (span : Span) → end_if_below (offset + 1) span ≡ max (end_if_below offset span) (end_if_at offset span)
below_more offset span = grind (arith, nat_tests)

pairs : (a b c d : ℕ) → max (max a b) (max c d) ≡ max (max a c) (max b d)
pairs a b c d = omega arith

pub end_below_next : (offset : ℕ) (spans : List Span) → end_below (offset + 1) spans ≡ max (end_below offset spans) (end_at offset spans)
end_below_next offset [] = refl
end_below_next offset (span ∷ more) =
    ap (λ first. max first (end_below (offset + 1) more)) (below_more offset span)
    ∙ ap (λ rest. max (max (end_if_below offset span) (end_if_at offset span)) rest) (end_below_next offset more)
    ∙ pairs (end_if_below offset span) (end_if_at offset span) (end_below offset more) (end_at offset more)

none_before_zero : (span : Span) → end_if_below 0 span ≡ 0
none_before_zero span = grind (arith, nat_tests)

pub end_below_zero : (spans : List Span) → end_below 0 spans ≡ 0
end_below_zero [] = refl
end_below_zero (span ∷ more) = omega (arith, none_before_zero span, end_below_zero more)

pub further_end : (offset : ℕ) (spans : List Span) (old first new : ℕ) → old ≡ end_below offset spans → first ≡ end_at offset spans
    → new ≡ max old first → new ≡ end_below (offset + 1) spans
further_end offset spans old first new before at is =
    is ∙ ap (λ reached. max reached first) before ∙ ap (λ reached. max (end_below offset spans) reached) at ∙ sym (end_below_next offset spans)

-- ---- What is reached

none_below_zero : (n : ℕ) → false ≡ nat_lt n 0
none_below_zero n = grind (arith, nat_tests)

lt_max : (n a b : ℕ) → nat_lt n (max a b) ≡ (nat_lt n a || nat_lt n b)
lt_max n a b = grind (arith, nat_tests)

one_covers : (offset : ℕ) (span : Span) → has_offset offset span ≡ nat_lt offset (end_if_below (offset + 1) span)
one_covers offset span = grind (arith, nat_tests)

pub names_cover : (offset : ℕ) (spans : List Span) → list_any (has_offset offset) spans ≡ nat_lt offset (end_below (offset + 1) spans)
names_cover offset [] = none_below_zero offset
names_cover offset (span ∷ more) =
    ap (λ first. first || list_any (has_offset offset) more) (one_covers offset span)
    ∙ ap (λ rest. nat_lt offset (end_if_below (offset + 1) span) || rest) (names_cover offset more)
    ∙ sym (lt_max offset (end_if_below (offset + 1) span) (end_below (offset + 1) more))

one_place : (line offset place : ℕ) → is_on_line line offset place ≡ nat_lt line (end_if_below (offset + 1) (place_span place))
one_place line offset place = grind (arith, nat_tests)

pub places_cover : (line offset : ℕ) (places : List ℕ) → list_any (is_on_line line offset) places ≡ nat_lt line (end_below (offset + 1) (map place_span places))
places_cover line offset [] = none_below_zero line
places_cover line offset (place ∷ more) =
    ap (λ first. first || list_any (is_on_line line offset) more) (one_place line offset place)
    ∙ ap (λ rest. nat_lt line (end_if_below (offset + 1) (place_span place)) || rest) (places_cover line offset more)
    ∙ sym (lt_max line (end_if_below (offset + 1) (place_span place)) (end_below (offset + 1) (map place_span more)))

-- ---- One span more

three : (old first rest new : ℕ) → new ≡ max old first → max new rest ≡ max old (max first rest)
three old first rest new is = omega arith

pub end_at_next : (spans : List Span) (i k : ℕ) (d : Span) (old new : ℕ) → i < length spans
    → new ≡ max old (end_if_at k (get_or spans i d)) → max new (end_at k (drop (i + 1) spans)) ≡ max old (end_at k (drop i spans))
end_at_next spans i k d old new within is =
    three old (end_if_at k (get_or spans i d)) (end_at k (drop (i + 1) spans)) new is
    ∙ ap (λ reached. max old reached) (sym (at_drop_more (λ rest. end_at k rest) spans i d within))

pub end_at_next_place : (places : List ℕ) (i k d old new : ℕ) → i < length places
    → new ≡ max old (end_if_at k (place_span (get_or places i d)))
    → max new (end_at k (map place_span (drop (i + 1) places))) ≡ max old (end_at k (map place_span (drop i places)))
end_at_next_place places i k d old new within is =
    three old (end_if_at k (place_span (get_or places i d))) (end_at k (map place_span (drop (i + 1) places))) new is
    ∙ ap (λ reached. max old reached) (sym (at_drop_more (λ rest. end_at k (map place_span rest)) places i d within))
