-- Which words for a sed are told of, this project's own.
use Rattle.std.specs.Prelude.{◌≡◌, ◌<◌, ◌++◌, ℕ, ◌&&◌, ◌||◌, not, nat_le, nat_lt, Bool, true, List, length}
use Rattle.std.specs.List.{list_any, filter, range_with_len}
use Rattle.sedck_mentions.specs.Lines.{line_start, is_named_at}
use Rattle.sedck_mentions.specs.declared.spans.Span.{Span}

-- the offset is in the span
abbrev pub has_offset : ℕ → Span → Bool
has_offset offset span = nat_le span.start offset && nat_lt offset span.end

-- the place is not before the beginning of the line, and not after the offset
abbrev pub is_on_line : ℕ → ℕ → ℕ → Bool
is_on_line line offset place = nat_le line place && nat_le place offset

-- It is told of: one of these names of calls has the offset, or one of these places is there, or before it on its line. What isn't
-- understood from a place on is the rest of the line.
abbrev pub is_covered : List ℕ → List Span → List ℕ → ℕ → Bool
is_covered file names places offset =
    list_any (has_offset offset) names || list_any (is_on_line (line_start file offset) offset) places

-- a word for a sed begins at the offset, of which nothing is told
abbrev pub is_untold_at : Bool → List ℕ → List Span → List ℕ → ℕ → Bool
is_untold_at has_macros file names places offset =
    is_named_at has_macros file offset && not (is_covered file names places offset)

-- the offsets of all of them, in the file's order
abbrev pub untold : Bool → List ℕ → List Span → List ℕ → List ℕ
untold has_macros file names places = filter (is_untold_at has_macros file names places) (range_with_len 0 (length file))

-- ---- What follows

-- each word for a sed is told of: by the names of calls, by the places, or as one of those words
abbrev pub EachIsTold : Type 0
EachIsTold =
    (has_macros : Bool) (file : List ℕ) (names : List Span) (places : List ℕ) (offset : ℕ) → offset < length file
    → is_named_at has_macros file offset ≡ true → is_covered file names (places ++ untold has_macros file names places) offset ≡ true
