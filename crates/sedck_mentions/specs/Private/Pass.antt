-- What is known of a file up to an offset.
use Rattle.std.specs.Prelude.{ℕ, ◌==◌, ◌+◌, max, nat_lt, Bool, List, [], ◌∷◌, drop, if◌then◌else◌}
use Rattle.sedck_mentions.specs.Lines.{line_start, path_start, is_comment}
use Rattle.sedck_mentions.specs.declared.line.Line.{Line}
use Rattle.sedck_mentions.specs.declared.spans.Span.{Span}

abbrev pub line_at : Bool → List ℕ → ℕ → Line
line_at has_macros file offset = record {
  start = line_start file offset;
  path = path_start file offset;
  is_comment = is_comment has_macros (drop (line_start file offset) file);
}

-- the end of the span, if it begins at the offset
abbrev pub end_if_at : ℕ → Span → ℕ
end_if_at offset span = if span.start == offset then span.end else 0

-- the furthest end of those that begin at the offset
abbrev pub end_at : ℕ → List Span → ℕ
end_at offset [] = 0
end_at offset (span ∷ more) = max (end_if_at offset span) (end_at offset more)

abbrev pub end_if_below : ℕ → Span → ℕ
end_if_below offset span = if nat_lt span.start offset then span.end else 0

-- the furthest end of those that begin before the offset
abbrev pub end_below : ℕ → List Span → ℕ
end_below offset [] = 0
end_below offset (span ∷ more) = max (end_if_below offset span) (end_below offset more)

-- a place as a span of one byte
abbrev pub place_span : ℕ → Span
place_span place = record { start = place; end = place + 1 }
