-- Errors among findings.
use Rattle.sedck_explanation.proofs.Common.{◌≡◌, ◌∙◌, ◌||◌, ℕ, Bool, true, false, not, List, [], ◌∷◌, Option, Some, refl, ap, is_error, has_error, BeginsWithError, Finding, Position, Denied, AddsNoError, is_denied, status_under, BeginsWithAnswer, is_accepted, Status, IsRefused, AreFindingsOf, IsFindingOf, AreDeniedFindings, Answer, Expressions, ScriptRefused, CertificateRefused, Accepted, Rejected, Endless, NotJudged}
use Rattle.std.proofs.Common.{if◌then◌else◌}
use Rattle.sedck_advice.proofs.Added.{or-false}
use Rattle.sedck_answer.specs.declared.status.Status.TheVariants as exit

-- ---- From the finding of the answer to all findings

-- the findings stay those of the answer where none that is added is an error
pub findings_stay : (text : List ℕ) (positions : List Position) (answer : Answer) (old new : List Finding) → AddsNoError old new
    → AreFindingsOf text positions answer old → AreFindingsOf text positions answer new
findings_stay text positions (Accepted cert limits) old new adds found = adds.errors ∙ found
findings_stay text positions (ScriptRefused why) old new adds found = (found.0, found.1, adds.first found.0 found.2)
findings_stay text positions (CertificateRefused why) old new adds found = (found.0, found.1, adds.first found.0 found.2)
findings_stay text positions (Rejected cert why) old new adds found = (found.0, found.1, adds.first found.0 found.2)
findings_stay text positions (Endless walk) old new adds found = (found.0, found.1, adds.first found.0 found.2)
findings_stay text positions NotJudged old new adds found = (found.0, found.1, adds.first found.0 found.2)

-- one finding
pub finding_alone : (text : List ℕ) (positions : List Position) (answer : Answer) (f : Finding) → IsFindingOf text positions answer (Some f)
    → AreFindingsOf text positions answer (f ∷ [])
finding_alone text positions (Accepted cert limits) f is = or-false false (is_error f.level) (ap is_error is)
finding_alone text positions (ScriptRefused why) f is = (f.position, is.1, (is.0, refl))
finding_alone text positions (CertificateRefused why) f is = (f.position, is.1, (is.0, refl))
finding_alone text positions (Rejected cert why) f is = (f.position, is.1, (is.0, refl))
finding_alone text positions (Endless walk) f is = (f.position, is.1, (is.0, refl))
finding_alone text positions NotJudged f is = (f.position, is.1, (is.0, refl))

-- ---- The errors of an explanation

begins_is_error : (position : Option Position) (findings : List Finding) → BeginsWithError position findings → has_error findings ≡ true
begins_is_error position [] begins = absurd begins
begins_is_error position (f ∷ more) begins = rw begins.0 refl

denied_is_error : (is_denied error_before error : Bool) (status : Status) → error ≡ (is_denied || error_before) → error_before ≡ false
    → status ≡ (if is_denied then exit.Rejected else exit.Accepted) → error ≡ not (is_accepted status)
denied_is_error true before error status is none is_status = rw (is_status, is) refl
denied_is_error false before error status is none is_status = rw (is_status, is, none) refl

-- there is an error exactly where it isn't accepted, and the first is that of the answer
pub errors_of : (text : List ℕ) (positions : List Position) (denied : Denied) (has : Expressions) (answer : Answer) (before all : List Finding) (status : Status)
    → AreFindingsOf text positions answer before → AreDeniedFindings denied has before all answer → status ≡ status_under denied all has answer
    → (has_error all ≡ not (is_accepted status)) × BeginsWithAnswer text positions all answer
errors_of text positions denied has (Accepted cert limits) before all status found denials is =
    (denied_is_error (is_denied denied all has (Accepted cert limits)) (has_error before) (has_error all) status denials found is, tt)
errors_of text positions denied has (ScriptRefused why) before all status found denials is =
    rw denials ((rw is (begins_is_error found.0 before found.2)), found)
errors_of text positions denied has (CertificateRefused why) before all status found denials is =
    rw denials ((rw is (begins_is_error found.0 before found.2)), found)
errors_of text positions denied has (Rejected cert why) before all status found denials is =
    rw denials ((rw is (begins_is_error found.0 before found.2)), found)
errors_of text positions denied has (Endless walk) before all status found denials is =
    rw denials ((rw is (begins_is_error found.0 before found.2)), found)
errors_of text positions denied has NotJudged before all status found denials is =
    rw denials ((rw is (begins_is_error found.0 before found.2)), found)

-- the same of a script that is refused, where nothing is denied
pub errors_of_refusal : (text : List ℕ) (denied : Denied) (has : Expressions) (answer : Answer) (findings : List Finding) (status : Status) → IsRefused text answer
    → AreFindingsOf text [] answer findings → status ≡ status_under denied findings has answer
    → (has_error findings ≡ not (is_accepted status)) × BeginsWithAnswer text [] findings answer
errors_of_refusal text denied has (ScriptRefused why) findings status refused found is =
    errors_of text [] denied has (ScriptRefused why) findings findings status found refl is
errors_of_refusal text denied has _ findings status refused found is = absurd refused
