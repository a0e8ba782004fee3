-- What functions promise each other of the findings.
use Rattle.std.specs.Prelude.{◌≡◌, ℕ, false, List, Option, Some, None, IfSome}
use Rattle.sedck_script.specs.Program.{Program}
use Rattle.sedck_script.specs.Names.{reads, writes}
use Rattle.sedck_report.specs.Levels.{has_error}
use Rattle.sedck_report.specs.declared.finding.Finding.{Finding}
use Rattle.sedck_report.specs.declared.finding.Level.TheVariants.{Error, Note}
use Rattle.sedck_report.specs.declared.places.Position.{Position}
use Rattle.sedck_errors.specs.Errors.{IsReportable}
use Rattle.sedck_explanation.specs.Errors.{IsErrorPosition, BeginsWithAnswer}
use Rattle.sedck_answer.specs.declared.answer.Answer.{Answer}
use Rattle.sedck_answer.specs.declared.answer.Answer.TheVariants.{ScriptRefused, Accepted, NotJudged}

-- what is known of an answer for this script that is read or refused
abbrev pub IsOfScript : List ℕ → Program → Answer → Type 0
IsOfScript text p (ScriptRefused why) = IsReportable text why
IsOfScript text p (Accepted cert limits) = (cert.reads ≡ reads p) × (cert.writes ≡ writes p)
IsOfScript text p NotJudged = ⊥
IsOfScript text p _ = Unit {0}

-- the script is refused, and its fault can be reported
abbrev pub IsRefused : List ℕ → Answer → Type 0
IsRefused text (ScriptRefused why) = IsReportable text why
IsRefused text _ = ⊥

-- the script is judged, and the fault of one that is refused can be reported
abbrev pub CanBeReported : List ℕ → Answer → Type 0
CanBeReported text (ScriptRefused why) = IsReportable text why
CanBeReported text NotJudged = ⊥
CanBeReported text _ = Unit {0}

-- the finding of an answer: an error where it isn't a yes
abbrev pub IsFindingOf : List ℕ → List Position → Answer → Option Finding → Type 0
IsFindingOf text positions (Accepted cert limits) found = IfSome found (λ finding. finding.level ≡ Note)
IsFindingOf text positions answer None = ⊥
IsFindingOf text positions answer (Some finding) = (finding.level ≡ Error) × IsErrorPosition text positions answer finding.position

-- the findings before anything is denied: no error for a yes, and else the answer's first
abbrev pub AreFindingsOf : List ℕ → List Position → Answer → List Finding → Type 0
AreFindingsOf text positions (Accepted cert limits) findings = has_error findings ≡ false
AreFindingsOf text positions answer findings = BeginsWithAnswer text positions findings answer
