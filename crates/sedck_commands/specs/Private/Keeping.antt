-- What the reader of a replacement's groups says, part after part.
use Rattle.std.specs.Prelude.{ℕ, ◌^◌, Bool, false, not, ◌&&◌, List, [], ◌∷◌, Option, Some, None, if◌then◌else◌}
use Rattle.std.specs.Int.RustNames.{bit_or}
use Rattle.sedck_bre.specs.Rests.{is_top_group, names}
use Rattle.sedck_commands.specs.Program.{Pattern, Previous, Expression, Part, Text, Newline, Tab, Whole, Group}

-- whether a replacement that keeps the groups of the bits may keep this one as well
abbrev pub may_keep : Pattern → ℕ → ℕ → Bool
may_keep Previous bits k = false
may_keep (Expression own) bits k = is_top_group own k && not (names bits k)

-- the bits of the groups with those of one part more, or none where the replacement doesn't keep groups
abbrev pub kept_with : Pattern → ℕ → Part → Option ℕ
kept_with pattern bits (Text bytes) = Some bits
kept_with pattern bits Newline = Some bits
kept_with pattern bits Tab = Some bits
kept_with pattern bits Whole = None
kept_with pattern bits (Group k) = if may_keep pattern bits k then Some (bit_or bits (2 ^ k)) else None

abbrev pub kept_from : Pattern → Option ℕ → List Part → Option ℕ
kept_from pattern None parts = None
kept_from pattern (Some bits) [] = Some bits
kept_from pattern (Some bits) (part ∷ parts) = kept_from pattern (kept_with pattern bits part) parts
