-- What is said where commands that have their own delimiter in a list are read with another one, this project's own.
use Rattle.std.specs.Prelude.{◌≡◌, ◌≢◌, ◌⊎◌, ℕ, Bool, true, false, List, None}
use Rattle.sedck_plain.specs.Mended.{IsMended}
use Rattle.sedck_call.specs.declared.call.Call.{Call}
use Rattle.sedck_errors.specs.declared.denied.Denied.{Denied}
use Rattle.sedck_explanation.specs.Called.{IsCalled}
use Rattle.sedck_explanation.specs.Explanations.{IsExplanation}
use Rattle.sedck_answer.specs.declared.explanation.Explanation.{Explanation}
use Rattle.sedck_answer.specs.declared.status.Status.{Status}
use Rattle.sedck_answer.specs.declared.status.Status.TheVariants.{Accepted, Refused, Misused, Failed, Unknown}

-- what holds under a condition is no yes
abbrev pub under_condition : Status → Status
under_condition Accepted = Unknown
under_condition status = status

-- the status, under a condition, of the explanation of the text with other delimiters
pub record IsOfMended (denied : Denied) (text : List ℕ) (status : Status) : Type 0 where
  pub mended : List ℕ
  pub is_mended : IsMended text mended
  pub explanation : Explanation
  pub is_explanation : IsExplanation mended None denied explanation
  pub is_status : status ≡ under_condition explanation.status
  pub is_yes : status ≡ Unknown → explanation.status ≡ Accepted

-- the same of a call whose script is the text
pub record IsOfMendedCall (denied : Denied) (call : Call) (text : List ℕ) (status : Status) : Type 0 where
  pub mended : List ℕ
  pub is_mended : IsMended text mended
  pub explanation : Explanation
  pub is_called : IsCalled mended denied call explanation
  pub is_status : status ≡ under_condition explanation.status
  pub is_yes : status ≡ Unknown → (explanation.status ≡ Accepted) × IsExplanation mended None denied explanation

-- The status of what has this one: just that; but where mends are asked for, and it is refused, perhaps that of the text with other delimiters.
abbrev pub IsUnder : Bool → (Status → Type 0) → Status → Status → Type 0
IsUnder mends OfMended judged status = (status ≡ judged) ⊎ ((mends ≡ true) × (judged ≡ Refused) × OfMended status)

-- it is that of an answer; where mends are asked for, perhaps under a condition
abbrev pub IsOfAnswerUnder : Bool → Status → Type 0
IsOfAnswerUnder mends status = (status ≢ Misused) × (status ≢ Failed) × (mends ≡ false → status ≢ Unknown)
