-- The errors of an explanation, this project's own: which answers have one, and where in the script it is.
use Rattle.std.specs.Prelude.{◌≡◌, ℕ, not, List, Option, Some, None}
use Rattle.sedck_report.specs.Levels.{has_error, BeginsWithError}
use Rattle.sedck_report.specs.Positions.{position_in}
use Rattle.sedck_report.specs.declared.finding.Finding.{Finding}
use Rattle.sedck_report.specs.declared.places.Position.{Position}
use Rattle.sedck_errors.specs.Errors.{first_position, rejection_position, IsFaultOffset}
use Rattle.sedck_answer.specs.Status.{is_accepted}
use Rattle.sedck_answer.specs.declared.answer.Answer.{Answer}
use Rattle.sedck_answer.specs.declared.answer.Answer.TheVariants.{ScriptRefused, CertificateRefused, Accepted, Rejected, Endless, NotJudged}
use Rattle.sedck_answer.specs.declared.explanation.Explanation.{Explanation}

-- the position in the script's text of the error of an answer that isn't a yes
abbrev pub IsErrorPosition : List ℕ → List Position → Answer → Option Position → Type 0
IsErrorPosition text positions (ScriptRefused why) position =
    (offset : ℕ) × IsFaultOffset text why offset × (position ≡ Some (position_in text offset))
IsErrorPosition text positions (CertificateRefused why) position = position ≡ None
IsErrorPosition text positions (Rejected cert why) position = position ≡ rejection_position positions why
IsErrorPosition text positions (Endless walk) position = position ≡ first_position positions walk.nodes.items
IsErrorPosition text positions NotJudged position = position ≡ None
IsErrorPosition text positions (Accepted cert limits) position = ⊥

-- the first finding is the error of an answer that isn't a yes
abbrev pub BeginsWithAnswer : List ℕ → List Position → List Finding → Answer → Type 0
BeginsWithAnswer text positions findings (Accepted cert limits) = Unit {0}
BeginsWithAnswer text positions findings answer =
    (position : Option Position) × IsErrorPosition text positions answer position × BeginsWithError position findings

-- the errors of an explanation: there is one exactly where it isn't accepted, and the first is that of the answer
pub record HasErrors (text : List ℕ) (e : Explanation) : Type 0 where
  pub exactly : has_error e.findings.items ≡ not (is_accepted e.status)
  pub first : BeginsWithAnswer text e.positions.items e.findings.items e.answer
