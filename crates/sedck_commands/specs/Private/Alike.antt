-- Parts of commands that seds read alike, as the readers say what they read.
use Rattle.std.specs.Prelude.{◌≡◌, ℕ, false, List}
use Rattle.sedck_bre.specs.Tree.{Tree}
use Rattle.sedck_bre.specs.Shape.{Shape}
use Rattle.sedck_expressions.specs.Misjudged.{is_misjudged}
use Rattle.sedck_commands.specs.ReadAlike.{begins_braced_comment, read_alike}
use Rattle.sedck_commands.specs.Program.{Pattern, Part, Substitution}
use Rattle.sedck_commands.specs.Parts.{Ends, IsPatternIn, NameIn, FlagsIn}

-- the text spells the expression, and it is none that matchers of real seds get wrong
abbrev pub IsExpression : List ℕ → Tree → Type 0
IsExpression text tree = Shape text tree × (is_misjudged tree ≡ false)

abbrev pub IsPattern : List ℕ → Pattern → Type 0
IsPattern = IsPatternIn read_alike

abbrev pub Name : List ℕ → List ℕ → List ℕ → Type 0
Name = NameIn read_alike

abbrev pub Flags : Pattern → List Part → List ℕ → Substitution → List ℕ → Type 0
Flags = FlagsIn read_alike

-- the end of a branch or a test
abbrev pub EndsJump : List ℕ → List ℕ → Type 0
EndsJump text rest = Ends text rest × (begins_braced_comment rest ≡ false)
