-- What is proved of expressions in other locales.
use Rattle.std.specs.Prelude.{◌≡◌, ◌↔◌, ℕ, Bool, IsTrue, List, map}
use Rattle.sedck_commands.specs.Program.{Address, Program}
use Rattle.sedck_commands.specs.Items.{WrittenVerb, CommandText}
use Rattle.sedck_expressions.specs.Tree.{Tree}
use Rattle.sedck_expressions.specs.Shape.{Shape}
use Rattle.sedck_bre.specs.Match.{Groups, Match}
use Rattle.sedck_plain.specs.WrittenLists.{lists_from, expression_lists, command_lists}
use Rattle.sedck_plain.specs.Plain.{SpellSame}
use Rattle.sedck_plain.specs.declared.written.Position.TheVariants.{Outside}
use Rattle.sedck_locales.specs.Written.{written, lists_in, command_expressions, IsWrittenAs}
use Rattle.sedck_locales.specs.Locales.{MatchIn, PosixLists}

-- the lists that are found in the text of an expression are those of the grammar
abbrev pub ListsAreWritten : Type 0
ListsAreWritten = (text : List ℕ) (t : Tree) (shape : Shape text t) → lists_from Outside text ≡ lists_in (written text t shape)

-- Two texts of one expression with the same lists are one tree of written lists. So they match alike, whatever a locale makes of lists.
abbrev pub WrittenAlikeIsOne : Type 0
WrittenAlikeIsOne = (text other : List ℕ) (t : Tree) (one : Shape text t) (two : Shape other t) → expression_lists text ≡ expression_lists other
    → written text t one ≡ written other t two

abbrev pub WrittenAlikeMatchAlike : Type 0
WrittenAlikeMatchAlike = (text other : List ℕ) (t : Tree) (one : Shape text t) (two : Shape other t) → expression_lists text ≡ expression_lists other
    → (matches : List ℕ → List ℕ → Bool) (e : Groups) (w : List ℕ) (e' : Groups)
    → MatchIn (λ list text. IsTrue (matches list text)) (written text t one) e w e' ↔ MatchIn (λ list text. IsTrue (matches list text)) (written other t two) e w e'

-- commands with the same lists have them expression by expression
abbrev pub ListsAreByExpression : Type 0
ListsAreByExpression = (text rest other left : List ℕ) (a b : Address) (m n : Bool) (v u : WrittenVerb) (one : CommandText text a m v rest)
    (two : CommandText other b n u left) → command_lists one ≡ command_lists two
    → map (lists_from Outside) (command_expressions one) ≡ map (lists_from Outside) (command_expressions two)

-- in the POSIX locale an expression matches what it matches by the bytes of its lists
abbrev pub MatchesArePosix : Type 0
MatchesArePosix = (text : List ℕ) (t : Tree) (shape : Shape text t) (e : Groups) (w : List ℕ) (e' : Groups)
    → Match t e w e' ↔ MatchIn PosixLists (written text t shape) e w e'

-- A script and its plain text are one program of written lists. So in each locale, whatever that makes of a list, of `.` and of a byte, each run of the text
-- is one of the script.
abbrev pub SpelledSameIsWrittenAlike : Type 0
SpelledSameIsWrittenAlike = (script text : List ℕ) → SpellSame script text → (q : Program) → IsWrittenAs script q ↔ IsWrittenAs text q
