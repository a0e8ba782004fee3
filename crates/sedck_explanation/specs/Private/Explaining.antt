-- The steps to an explanation.
use Rattle.std.specs.Prelude.{◌≡◌, ◌||◌, ◌&&◌, ℕ, true, not, List, Some, map}
use Rattle.std.specs.List.{All}
use Rattle.std.specs.Option.{is_some}
use Rattle.sedck_script.specs.Program.{Program}
use Rattle.sedck_script.specs.Names.{reads, writes}
use Rattle.sedck_commands.specs.declared.location.Location.{Location}
use Rattle.sedck_report.specs.Positions.{position_in}
use Rattle.sedck_report.specs.Files.{is_there, names_of}
use Rattle.sedck_report.specs.Levels.{has_locale, has_error}
use Rattle.sedck_report.specs.Reported.{AreInOrder, HasRange}
use Rattle.sedck_report.specs.declared.finding.Finding.{Finding}
use Rattle.sedck_report.specs.declared.finding.NamedFile.{NamedFile}
use Rattle.sedck_report.specs.declared.places.Position.{Position}
use Rattle.sedck_advice.specs.Locale.{depends_on_locale}
use Rattle.sedck_errors.specs.declared.denied.Denied.{Denied}
use Rattle.sedck_explanation.specs.Denial.{expressions_of, is_denied, status_under, warns_of_denied}
use Rattle.sedck_explanation.specs.Errors.{HasErrors, BeginsWithAnswer}
use Rattle.sedck_explanation.specs.Explanations.{kept_has}
use Rattle.sedck_answer.specs.Status.{is_accepted}
use Rattle.sedck_answer.specs.declared.status.Status.{Status}
use Rattle.sedck_answer.specs.declared.answer.Answer.{Answer}
use Rattle.sedck_answer.specs.declared.answer.Answer.TheVariants.{Accepted}
use Rattle.sedck_explanation.specs.declared.answer.Expressions.{Expressions}
use Rattle.sedck_explanation.specs.declared.explaining.FoundExpressions.{FoundExpressions}
use Rattle.sedck_answer.specs.declared.explanation.Explanation.{Explanation}

-- the explanation of this answer, but for what it keeps of the script
pub record Explains (text : List ℕ) (denied : Denied) (answer : Answer) (e : Explanation) : Type 0 where
  pub is_text : e.text.now ≡ text
  pub is_answer : e.answer ≡ answer
  pub is_status : e.status ≡ status_under denied e.findings.items (expressions_of e.script) e.answer
  pub locale : has_locale e.findings.items ≡ (not denied.c_locale && kept_has depends_on_locale e.script)
  pub errors : HasErrors text e
  pub order : AreInOrder e.findings.items
  pub ends : All (HasRange text) e.findings.items

-- a status and the findings of an answer to a caller who denies this, for this script with its verbs at these positions
pub record Reports (text : List ℕ) (denied : Denied) (answer : Answer) (script : Program) (positions : List Position) (status : Status) (findings : List Finding) : Type 0 where
  pub is_status : status ≡ status_under denied findings (expressions_of (Some script)) answer
  pub locale : has_locale findings ≡ (not denied.c_locale && depends_on_locale script)
  pub exactly : has_error findings ≡ not (is_accepted status)
  pub first : BeginsWithAnswer text positions findings answer
  pub order : AreInOrder findings
  pub ends : All (HasRange text) findings

-- the script is kept with its text, with its names and with the positions of these locations
pub record KeepsLocated (text : List ℕ) (script : Program) (locations : List Location) (e : Explanation) : Type 0 where
  pub is_kept : e.script ≡ Some script
  pub source : e.source.now ≡ text
  pub reads : names_of e.reads.items ≡ reads script
  pub writes : names_of e.writes.items ≡ writes script
  pub positions : e.positions.items ≡ map (λ location. position_in text location.verb) locations

-- the lists of files have something where those of an accepted certificate do
abbrev pub HasLists : List NamedFile → List NamedFile → Answer → Type 0
HasLists reads writes (Accepted cert limits) = (is_there cert.reads ≡ is_there reads) × (is_there cert.writes ≡ is_there writes)
HasLists reads writes _ = Unit {0}

-- which expressions were found that may be denied
abbrev pub kinds_of : FoundExpressions → Expressions
kinds_of found = record { slow = is_some found.slow; references = is_there found.references.items }

-- what is denied adds errors to the findings of a script that is accepted
abbrev pub AreDeniedFindings : Denied → Expressions → List Finding → List Finding → Answer → Type 0
AreDeniedFindings denied expressions before all (Accepted cert limits) =
    has_error all ≡ (is_denied denied all expressions (Accepted cert limits) || has_error before)
AreDeniedFindings denied expressions before all _ = all ≡ before

-- of the warnings that are given beside the script's own, those that are denied are reported; a comment of the script may ignore others
abbrev pub WarnedWith : Denied → List Finding → Explanation → Type 0
WarnedWith denied given e = warns_of_denied denied given ≡ true → warns_of_denied denied e.findings.items ≡ true
