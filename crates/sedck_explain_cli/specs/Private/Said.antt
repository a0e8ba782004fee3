-- What is said of a script that is read, and of a call.
use Rattle.std.specs.Prelude.{◌≡◌, ◌≢◌, ◌⊎◌, ℕ, Bool, true, false, List, Option, None, IfSome}
use Rattle.std.specs.Io.KnownBytes.{Keeps}
use Rattle.sedck_call.specs.Calls.{IsCall}
use Rattle.sedck_call.specs.Scripts.{joined_texts}
use Rattle.sedck_call.specs.declared.call.Call.{Call}
use Rattle.sedck_engines.specs.Inputs.{IsRead}
use Rattle.sedck_engines.specs.Opened.{Known}
use Rattle.sedck_errors.specs.declared.denied.Denied.{Denied}
use Rattle.sedck_explanation.specs.Called.{has_foreign, AreParts, IsCalled, IsAcceptedCall, known_bytes}
use Rattle.sedck_explanation.specs.Explanations.{IsExplanation}
use Rattle.sedck_answer.specs.Status.{IsOfAnswer}
use Rattle.sedck_answer.specs.declared.explanation.Explanation.{Explanation}
use Rattle.sedck_answer.specs.declared.status.Status.{Status}
use Rattle.sedck_answer.specs.declared.status.Status.TheVariants.{Accepted, Refused, Unknown}
use Rattle.sedck_formats.specs.Plain.{Output, Writes}
use Rattle.sedck_explain_cli.specs.CallStatus.{HasCallStatus}
use Rattle.sedck_explain_cli.specs.Mended.{under_condition, IsOfMended, IsOfAnswerUnder, IsUnder}
use Rattle.sedck_explain_cli.specs.Requests.{certificate_of}
use Rattle.sedck_explain_cli.specs.Spelled.{IsIn, WritesUnder}
use Rattle.sedck_explain_cli.specs.Statuses.{IsGiven}
use Rattle.sedck_explain_cli.specs.declared.request.Request.{Request}

-- What was read of a script, and of a certificate where there is one, is explained and has this status, perhaps under a condition; in the
-- format `sed` the script is written as it is spelled plainly.
pub record IsExplainedUnder (mends plain : Bool) (text : List ℕ) (given : Option (List ℕ)) (denied : Denied) (out err : Output) (status : Status) : Type 0 where
  pub few : IsOfAnswerUnder mends status
  pub explanation : Explanation
  pub is_explanation : IsExplanation text given denied explanation
  pub is_status : IsIn plain (IsUnder mends (IsOfMended denied text) explanation.status) status
  pub writes : plain ≡ true → WritesUnder mends denied text out status
  pub silent : (plain ≡ false) ⊎ (status ≡ Accepted) → Keeps err.before err.after

-- so it is for what was read of the script at the path, and of the request's certificate
pub record IsExplainedAt (k : Known) (request : Request) (path : List ℕ) (plain : Bool) (out err : Output) (status : Status) : Type 0 where
  pub text : List ℕ
  pub is_text : IsRead 1048577 (known_bytes k path) text
  pub given : Option (List ℕ)
  pub is_given : IsGiven k (certificate_of request) given
  pub is_explained : IsExplainedUnder request.mends plain text given request.denied out err status

-- the explanation has the status of the call with these words, and is that of its script where it is a yes
pub record IsSaid (mends : Bool) (k : Known) (denied : Denied) (words : List (List ℕ)) (e : Explanation) : Type 0 where
  pub few : IsOfAnswer e.status
  pub has_status : HasCallStatus mends k denied words e.status
  pub yes : e.status ≡ Accepted → (accepted : IsAcceptedCall k denied words) × IsExplanation (joined_texts accepted.parts) None denied e

-- the words are a call in the language of the model, whose script is the text, and this is said of it
pub record IsJudgedCall (k : Known) (denied : Denied) (words : List (List ℕ)) (call : Call) (text : List ℕ) (e : Explanation) : Type 0 where
  pub is_call : IsCall words call
  pub is_judged : has_foreign call.given.items ≡ false
  pub parts : List (List ℕ)
  pub are_parts : AreParts k words call.pieces.items parts
  pub is_text : text ≡ joined_texts parts
  pub few : IsOfAnswer e.status
  pub is_called : IsCalled text denied call e
  pub yes : e.status ≡ Accepted → IsExplanation text None denied e

-- What is written of what is said under a condition, in the format `sed` or in another one, and its status: that of what is refused too,
-- where there is no plain spelling.
pub record IsDeliveredUnder (plain : Bool) (e : Explanation) (out err : Output) (status : Status) : Type 0 where
  pub is_status : (status ≡ under_condition e.status) ⊎ ((plain ≡ true) × (e.status ≡ Accepted) × (status ≡ Refused))
  pub writes : plain ≡ true → status ≡ Unknown → IfSome e.script (Writes out e.source.now)
  pub kept : plain ≡ true → status ≢ Unknown → Keeps out.before out.after
  pub silent : plain ≡ false → Keeps err.before err.after
