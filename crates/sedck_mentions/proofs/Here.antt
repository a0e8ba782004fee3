-- What is known at an offset, and at the next one.
use Rattle.std.proofs.Common.{◌≡◌, ◌≢◌, ◌<◌, ◌+◌, ◌++◌, ◌∙◌, ◌&&◌, ◌||◌, not, ℕ, Bool, true, false, List, [], ◌∷◌, length, get_or, take, drop, map, filter, append-nil, refl, ap, sym, arith}
use Rattle.std.specs.Prelude.{cond, nat_lt, ◌==◌, if◌then◌else◌}
use Rattle.std.specs.List.{list_any, range_with_len}
use Rattle.std.proofs.lemmas.Bool.Decides.{nat_tests}
use Rattle.sedck_mentions.specs.Words.{is_path_byte, is_word, is_idle}
use Rattle.sedck_mentions.specs.Lines.{line_start, path_start, is_comment, is_named_at}
use Rattle.sedck_mentions.specs.Told.{has_offset, is_untold_at}
use Rattle.sedck_mentions.specs.Private.Pass.{line_at, end_below, place_span}
use Rattle.sedck_mentions.specs.declared.line.Line.{Line}
use Rattle.sedck_mentions.specs.declared.spans.Span.{Span}
use Rattle.sedck_mentions.proofs.Ends.{names_cover, places_cover}
use Rattle.sedck_mentions.proofs.Starts.{start_of_next, filter_next}

-- ---- The line

abbrev pub made : ℕ → ℕ → Bool → Line
made start path is_comment = record { start = start; path = path; is_comment = is_comment }

same : (a b c d : ℕ) (e f : Bool) → a ≡ b → c ≡ d → e ≡ f → made a c e ≡ made b d f
same a b c d e f first second third = ap (λ x. made x c e) first ∙ ap (λ x. made b x e) second ∙ ap (λ x. made b d x) third

pub after_newline : (has_macros : Bool) (file : List ℕ) (offset : ℕ) (is : Bool) → offset < length file → get_or file offset 0 ≡ 10
    → is ≡ is_comment has_macros (drop (offset + 1) file) → made (offset + 1) (offset + 1) is ≡ line_at has_macros file (offset + 1)
after_newline has_macros file offset is within newline comment =
    let line : line_start file (offset + 1) ≡ offset + 1 = start_of_next (λ b. not (b == 10)) file offset 10 within newline in
    let path : path_start file (offset + 1) ≡ offset + 1 = start_of_next is_path_byte file offset 10 within newline in
    same (offset + 1) (line_start file (offset + 1)) (offset + 1) (path_start file (offset + 1)) is
    (is_comment has_macros (drop (line_start file (offset + 1)) file)) (sym line) (sym path)
    (comment ∙ ap (λ start. is_comment has_macros (drop start file)) (sym line))

differs : (a b : ℕ) → a ≢ b → not (a == b) ≡ true
differs a b other = grind (arith, nat_tests)

pub after_other : (has_macros : Bool) (file : List ℕ) (offset path : ℕ) → offset < length file → get_or file offset 0 ≢ 10
    → path ≡ (if is_path_byte (get_or file offset 0) then path_start file offset else offset + 1)
    → made (line_start file offset) path (is_comment has_macros (drop (line_start file offset) file)) ≡ line_at has_macros file (offset + 1)
after_other has_macros file offset path within other is =
    let line : line_start file (offset + 1) ≡ line_start file offset =
    start_of_next (λ b. not (b == 10)) file offset (get_or file offset 0) within refl
    ∙ ap (λ goes_on. if goes_on then line_start file offset else offset + 1) (differs (get_or file offset 0) 10 other) in
    same (line_start file offset) (line_start file (offset + 1)) path (path_start file (offset + 1))
    (is_comment has_macros (drop (line_start file offset) file)) (is_comment has_macros (drop (line_start file (offset + 1)) file)) (sym line)
    (is ∙ sym (start_of_next is_path_byte file offset (get_or file offset 0) within refl))
    (ap (λ start. is_comment has_macros (drop start file)) (sym line))

-- ---- The word

pub untold_here : (has_macros : Bool) (file : List ℕ) (names : List Span) (places : List ℕ) (offset : ℕ) (line : Line) (named told : ℕ) (is : Bool)
    → line ≡ line_at has_macros file offset → named ≡ end_below (offset + 1) names → told ≡ end_below (offset + 1) (map place_span places)
    → is ≡ ((is_word (take offset file) (drop offset file) && not (line.is_comment || is_idle (take line.path file)))
    && not (nat_lt offset named || nat_lt line.start told))
    → is ≡ is_untold_at has_macros file names places offset
untold_here has_macros file names places offset line named told is line_is named_is told_is value =
    value
    ∙ ap (λ l. (is_word (take offset file) (drop offset file) && not (l.is_comment || is_idle (take l.path file)))
    && not (nat_lt offset named || nat_lt l.start told)) line_is
    ∙ ap (λ end. is_named_at has_macros file offset && not (nat_lt offset end || nat_lt (line_start file offset) told)) named_is
    ∙ ap (λ end. is_named_at has_macros file offset && not (nat_lt offset (end_below (offset + 1) names) || nat_lt (line_start file offset) end)) told_is
    ∙ ap (λ covers. is_named_at has_macros file offset && not (covers || nat_lt (line_start file offset) (end_below (offset + 1) (map place_span places))))
    (sym (names_cover offset names))
    ∙ ap (λ covers. is_named_at has_macros file offset && not (list_any (has_offset offset) names || covers))
    (sym (places_cover (line_start file offset) offset places))

-- ---- The offsets so far

pub one_more : (p : ℕ → Bool) (n : ℕ) (old new : List ℕ) → old ≡ filter p (range_with_len 0 n) → true ≡ p n → new ≡ old ++ n ∷ []
    → new ≡ filter p (range_with_len 0 (n + 1))
one_more p n old new before passes is =
    is ∙ ap (λ offsets. offsets ++ n ∷ []) before
    ∙ ap (λ adds. filter p (range_with_len 0 n) ++ cond adds (n ∷ []) []) passes ∙ sym (filter_next p n)

pub no_more : (p : ℕ → Bool) (n : ℕ) (old new : List ℕ) → old ≡ filter p (range_with_len 0 n) → false ≡ p n → new ≡ old
    → new ≡ filter p (range_with_len 0 (n + 1))
no_more p n old new before fails is =
    is ∙ before ∙ sym (append-nil (filter p (range_with_len 0 n)))
    ∙ ap (λ adds. filter p (range_with_len 0 n) ++ cond adds (n ∷ []) []) fails ∙ sym (filter_next p n)
