-- What stays of the findings where some are ignored.
use Rattle.sedck_explanation.proofs.Common.{◌≡◌, ◌∙◌, ◌||◌, not, ℕ, Bool, true, false, List, [], ◌∷◌, ◌++◌, Option, map, refl, sym, ap, subst, All-head, is_error, has_error, BeginsWithError, AreOf, AreInOrder, head_of, Code, Finding, Error, Position, Denied, DeniedWarnings, status_under, warns_of_denied, BeginsWithAnswer, is_accepted, Status, errors_in, AreReported, Answer, Expressions, ScriptRefused, CertificateRefused, Accepted, Rejected, Endless, NotJudged}
use Rattle.std.specs.Prelude.{cond}
use Rattle.sedck_explanation.specs.Private.Reporting.{KeepsErrors}
use Rattle.sedck_explanation.proofs.Reports.{errors_of_ordered}

-- a list has something
abbrev any_in : {A : Type 0} → List A → Bool
any_in [] = false
any_in (x ∷ more) = true

there_by : (is : Bool) (f : Finding) (more : List Finding) → has_error more ≡ any_in (map head_of (errors_in more))
    → (is || has_error more) ≡ any_in (map head_of (cond is (f ∷ errors_in more) (errors_in more)))
there_by true f more there = refl
there_by false f more there = there

error_there : (findings : List Finding) → has_error findings ≡ any_in (map head_of (errors_in findings))
error_there [] = refl
error_there (f ∷ more) = there_by (is_error f.level) f more (error_there more)

-- whether there is an error
pub error_kept : (found all : List Finding) → KeepsErrors found all → has_error all ≡ has_error found
error_kept found all keeps = error_there all ∙ ap (λ (heads : List (Code × Option Position)). any_in heads) keeps ∙ sym (error_there found)

first_of : (errors rest : List Finding) (code : Code) (position : Option Position) (heads : List (Code × Option Position)) → AreOf Error errors
    → map head_of errors ≡ (code, position) ∷ heads → BeginsWithError position (errors ++ rest)
first_of [] rest code position heads are is = absurd (cc)
first_of (e ∷ more) rest code position heads are is =
    let head : head_of e ≡ (code, position) = cc in
    (All-head (λ (f : Finding). f.level ≡ Error) e more are, ap (λ h. h.1) head)

-- the first error
pub first_kept : (position : Option Position) (found all : List Finding) → KeepsErrors found all → AreInOrder all
    → BeginsWithError position found → BeginsWithError position all
first_kept position [] all keeps order begins = absurd begins
first_kept position (f ∷ more) all keeps order begins =
    let error : is_error f.level ≡ true = ap is_error begins.0 in
    let heads : map head_of (errors_in (f ∷ more)) ≡ (f.code, position) ∷ map head_of (errors_in more) =
    rw error (ap (λ p. (f.code, p) ∷ map head_of (errors_in more)) begins.1) in
    subst (BeginsWithError position) (sym order.parts)
    (first_of order.errors (order.warnings ++ order.notes) f.code position (map head_of (errors_in more)) order.are_errors
    (ap (map head_of) (sym (errors_of_ordered all order)) ∙ keeps ∙ heads))

answer_kept : (text : List ℕ) (positions : List Position) (answer : Answer) (found all : List Finding) → KeepsErrors found all → AreInOrder all
    → BeginsWithAnswer text positions found answer → BeginsWithAnswer text positions all answer
answer_kept text positions (Accepted cert limits) found all keeps order begins = tt
answer_kept text positions (ScriptRefused why) found all keeps order begins = (begins.0, begins.1, first_kept begins.0 found all keeps order begins.2)
answer_kept text positions (CertificateRefused why) found all keeps order begins = (begins.0, begins.1, first_kept begins.0 found all keeps order begins.2)
answer_kept text positions (Rejected cert why) found all keeps order begins = (begins.0, begins.1, first_kept begins.0 found all keeps order begins.2)
answer_kept text positions (Endless walk) found all keeps order begins = (begins.0, begins.1, first_kept begins.0 found all keeps order begins.2)
answer_kept text positions NotJudged found all keeps order begins = (begins.0, begins.1, first_kept begins.0 found all keeps order begins.2)

-- the status
pub status_kept : (denied : Denied) (has : Expressions) (answer : Answer) (was now : List Finding) → warns_of_denied denied now ≡ warns_of_denied denied was
    → status_under denied was has answer ≡ status_under denied now has answer
status_kept denied has (Accepted cert limits) was now same = rw same refl
status_kept denied has (ScriptRefused why) was now same = refl
status_kept denied has (CertificateRefused why) was now same = refl
status_kept denied has (Rejected cert why) was now same = refl
status_kept denied has (Endless walk) was now same = refl
status_kept denied has NotJudged was now same = refl

-- what holds of the errors that were found holds of those that are reported
pub errors_reported : (text : List ℕ) (positions : List Position) (answer : Answer) (denied : DeniedWarnings) (found all : List Finding) (status : Status)
    → AreReported text denied found all → (has_error found ≡ not (is_accepted status)) × BeginsWithAnswer text positions found answer
    → (has_error all ≡ not (is_accepted status)) × BeginsWithAnswer text positions all answer
errors_reported text positions answer denied found all status reported errors =
    (error_kept found all reported.errors ∙ errors.0, answer_kept text positions answer found all reported.errors reported.order errors.1)

pub status_reported : (text : List ℕ) (denied : Denied) (has : Expressions) (answer : Answer) (found all : List Finding) (status : Status)
    → AreReported text denied.warnings found all → status ≡ status_under denied found has answer → status ≡ status_under denied all has answer
status_reported text denied has answer found all status reported is = is ∙ status_kept denied has answer found all reported.warnings
