-- The exit status of a script, by what is known of its files, this project's own.
use Rattle.std.specs.Prelude.{◌≡◌, ℕ, Bool, List, Option, Some, None}
use Rattle.sedck_engines.specs.Inputs.{IsRead}
use Rattle.sedck_engines.specs.Opened.{Known}
use Rattle.sedck_errors.specs.declared.denied.Denied.{Denied}
use Rattle.sedck_explanation.specs.Called.{known_bytes}
use Rattle.sedck_explanation.specs.Explanations.{IsExplanation}
use Rattle.sedck_answer.specs.declared.explanation.Explanation.{Explanation}
use Rattle.sedck_answer.specs.declared.status.Status.{Status}
use Rattle.sedck_explain_cli.specs.Mended.{IsOfMended, IsUnder}
use Rattle.sedck_explain_cli.specs.Requests.{certificate_of}
use Rattle.sedck_explain_cli.specs.declared.request.Request.{Request}

-- what was read of the certificate at the path, where one is given
abbrev pub IsGiven : Known → Option (List ℕ) → Option (List ℕ) → Type 0
IsGiven k None given = given ≡ None
IsGiven k (Some path) given = (bytes : List ℕ) × (given ≡ Some bytes) × IsRead 1572865 (k.bytes_at path) bytes

-- the status of the explanation of what was read of a script that has these bytes, where they are known
pub record HasStatus (k : Known) (denied : Denied) (mends : Bool) (certificate : Option (List ℕ)) (script : Option (List ℕ)) (status : Status) : Type 0 where
  pub text : List ℕ
  pub is_text : IsRead 1048577 script text
  pub given : Option (List ℕ)
  pub is_given : IsGiven k certificate given
  pub explanation : Explanation
  pub is_explanation : IsExplanation text given denied explanation
  pub is_status : IsUnder mends (IsOfMended denied text) explanation.status status

-- the status of the script at the path
abbrev pub StatusAt : Known → Request → List ℕ → Status → Type 0
StatusAt k request path = HasStatus k request.denied request.mends (certificate_of request) (known_bytes k path)
