-- The kinds of substitutions by literal parts alone: where a part stands for the match or a group, the kind is Grow. This project's own.
-- Certificates were first judged by these; the law `kinds_agree` compares them with the kinds of the flow graph.
use Rattle.std.specs.Prelude.{ℕ, ◌<◌, ◌≤◌, Bool, true, false, ◌&&◌, IsTrue, List, [], ◌∷◌, length}
use Rattle.sedck_commands.specs.Program.{Part, Whole, Group, Substitution, Program, literal_length}
use Rattle.sedck_flow.specs.Patterns.{PatternLanguage}
use Rattle.sedck_flow.specs.declared.graph.Kind.{Kind}
use Rattle.sedck_flow.specs.declared.graph.Kind.TheVariants.{Consume, Shorten, Keep, Grow}

-- no part stands for the match or a group
abbrev pub is_literal_part : Part → Bool
is_literal_part Whole = false
is_literal_part (Group k) = false
is_literal_part _ = true

abbrev pub is_literal : List Part → Bool
is_literal [] = true
is_literal (part ∷ parts) = is_literal_part part && is_literal parts

-- literal, and shorter than each text of the language
abbrev pub LiteralShortens : Program → Substitution → Type 0
LiteralShortens p s = IsTrue (is_literal s.parts)
    × ((text : List ℕ) → PatternLanguage p s.pattern text → literal_length s.parts < length text)

-- literal, and no longer than any text of the language
abbrev pub LiteralNeverLengthens : Program → Substitution → Type 0
LiteralNeverLengthens p s = IsTrue (is_literal s.parts)
    × ((text : List ℕ) → PatternLanguage p s.pattern text → literal_length s.parts ≤ length text)

-- the first of these that fits
abbrev pub HasLiteralKind : Program → Substitution → Kind → Type 0
HasLiteralKind p s Consume = ⊥
HasLiteralKind p s Shorten = LiteralShortens p s
HasLiteralKind p s Keep = (¬ LiteralShortens p s) × LiteralNeverLengthens p s
HasLiteralKind p s Grow = ¬ LiteralNeverLengthens p s
