-- What an explanation keeps of the script beside the answer, this project's own.
use Rattle.std.specs.Prelude.{◌≡◌, ◌&&◌, ℕ, Bool, true, false, not, List, [], length, map, Option, Some, None}
use Rattle.std.specs.List.{All}
use Rattle.sedck_script.specs.Program.{Program}
use Rattle.sedck_script.specs.Names.{reads, writes}
use Rattle.sedck_script.specs.Items.{Item, Items}
use Rattle.sedck_script.specs.Locations.{locations_of}
use Rattle.sedck_script.specs.Spelling.{Spells}
use Rattle.sedck_cert.specs.Headline.{Only}
use Rattle.sedck_report.specs.Positions.{position_in}
use Rattle.sedck_report.specs.Files.{names_of}
use Rattle.sedck_report.specs.Levels.{has_locale}
use Rattle.sedck_report.specs.Reported.{AreInOrder, HasRange}
use Rattle.sedck_report.specs.declared.finding.Finding.{Finding}
use Rattle.sedck_report.specs.declared.places.Position.{Position}
use Rattle.sedck_advice.specs.Locale.{depends_on_locale}
use Rattle.sedck_errors.specs.declared.denied.Denied.{Denied}
use Rattle.sedck_answer.specs.Answers.{KeepsNothing}
use Rattle.sedck_explanation.specs.Answers.{IsAnswer}
use Rattle.sedck_explanation.specs.Denial.{expressions_of, status_under}
use Rattle.sedck_explanation.specs.Errors.{HasErrors}
use Rattle.sedck_answer.specs.declared.answer.Answer.{Answer}
use Rattle.sedck_answer.specs.declared.answer.Answer.TheVariants.{ScriptRefused, NotJudged}
use Rattle.sedck_answer.specs.declared.explanation.Explanation.{Explanation}

-- the positions are those of the verbs, as every list of items has them that the text is read as
abbrev pub AreVerbPositions : List ℕ → List Position → Type 0
AreVerbPositions text positions = (items : List Item) (spelled : Items text items)
    → positions ≡ map (λ location. position_in text location.verb) (locations_of (length text) spelled)

-- the script is kept with its text, with the names that it reads and writes, each once and sorted, and with the positions of its verbs
pub record KeepsScript (text : List ℕ) (e : Explanation) : Type 0 where
  pub script : Program
  pub is_kept : e.script ≡ Some script
  pub source : e.source.now ≡ text
  pub spelled : Only Spells text script
  pub reads : names_of e.reads.items ≡ reads script
  pub writes : names_of e.writes.items ≡ writes script
  pub positions : AreVerbPositions text e.positions.items

-- the script is kept but where it is refused or not judged
abbrev pub Keeps : List ℕ → Answer → Explanation → Type 0
Keeps text (ScriptRefused why) e = KeepsNothing e
Keeps text NotJudged e = KeepsNothing e
Keeps text _ e = KeepsScript text e

-- the script, where one is kept, has this
abbrev pub kept_has : (Program → Bool) → Option Program → Bool
kept_has has None = false
kept_has has (Some p) = has p

-- The explanation of a script's text, and of a certificate's where there is one, to a caller who denies this
pub record IsExplanation (text : List ℕ) (given : Option (List ℕ)) (denied : Denied) (e : Explanation) : Type 0 where
  pub is_text : e.text.now ≡ text
  pub is_answer : IsAnswer text given e.answer
  pub is_status : e.status ≡ status_under denied e.findings.items (expressions_of e.script) e.answer
  -- the warning `locale` is there exactly where the script isn't byte safe and the locale isn't known to be C, whatever comments say
  pub locale : has_locale e.findings.items ≡ (not denied.c_locale && kept_has depends_on_locale e.script)
  pub keeps : Keeps text e.answer e
  pub errors : HasErrors text e
  pub order : AreInOrder e.findings.items
  pub ends : All (HasRange text) e.findings.items
