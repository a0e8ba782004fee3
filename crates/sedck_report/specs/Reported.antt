-- How findings are reported, this project's own: where each ends, and in which order they are.
use Rattle.std.specs.Prelude.{◌≡◌, ◌==◌, ◌+◌, ◌≤◌, ℕ, not, List, ◌++◌, drop, Option, Some, None}
use Rattle.std.specs.List.{All, prefix_len}
use Rattle.sedck_text.specs.Bytes.{newline}
use Rattle.sedck_report.specs.declared.code.Code.{Code}
use Rattle.sedck_report.specs.declared.finding.Finding.{Finding}
use Rattle.sedck_report.specs.declared.finding.Level.{Level}
use Rattle.sedck_report.specs.declared.finding.Level.TheVariants.{Error, Warning, Note}
use Rattle.sedck_report.specs.declared.places.Position.{Position}

-- the end is in the line of the start, and not before it: at most where the line's newline or the text's end is
pub record EndsInLine (text : List ℕ) (start end : Position) : Type 0 where
  pub behind : start.offset ≤ end.offset
  pub within : end.offset ≤ start.offset + prefix_len (λ b. not (b == newline)) (drop start.offset text)
  pub line : end.line ≡ start.line
  pub column : end.column + start.offset ≡ start.column + end.offset

-- there is an end where there is a start
abbrev pub IsRange : List ℕ → Option Position → Option Position → Type 0
IsRange text (Some start) (Some end) = EndsInLine text start end
IsRange text None None = Unit {0}
IsRange text _ _ = ⊥

abbrev pub HasRange : List ℕ → Finding → Type 0
HasRange text finding = IsRange text finding.position finding.end

-- what an error is about, and where
abbrev pub head_of : Finding → Code × Option Position
head_of finding = (finding.code, finding.position)

-- all of these findings have this level
abbrev pub AreOf : Level → List Finding → Type 0
AreOf level findings = All (λ finding. finding.level ≡ level) findings

-- errors are first, then warnings, then notes
pub record AreInOrder (findings : List Finding) : Type 0 where
  pub errors : List Finding
  pub warnings : List Finding
  pub notes : List Finding
  pub parts : findings ≡ errors ++ (warnings ++ notes)
  pub are_errors : AreOf Error errors
  pub are_warnings : AreOf Warning warnings
  pub are_notes : AreOf Note notes
