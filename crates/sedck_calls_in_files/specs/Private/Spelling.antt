-- What is written of a call in a text.
use Rattle.std.specs.Prelude.{ℕ, List, Option}
use Rattle.sedck_answer.specs.declared.explanation.Explanation.{Explanation}
use Rattle.sedck_answer.specs.declared.status.Status.{Status}
use Rattle.sedck_formats.specs.Plain.{Output, IsPlainStatus, IsPlainOutput}
use Rattle.sedck_found.specs.declared.found.FoundCall.{FoundCall}
use Rattle.sedck_calls_in_files.specs.Judged.{AskedOfCalls, IsSaidOfFound}
use Rattle.sedck_calls_in_files.specs.Scanned.{Holds, IsSaidOfOne}

-- the script of what is said of the call, where it is accepted
pub record SpellsCall (asked : AskedOfCalls) (text : List ℕ) (call : FoundCall) (out : Output) (status : Status) : Type 0 where
  pub explanation : Explanation
  pub is_said : IsSaidOfFound text asked call explanation
  pub is_status : IsPlainStatus explanation.status status
  pub writes : IsPlainOutput explanation out status

-- the same for one of the calls that are found in the text
pub record SpellsIn (known : Option Holds) (asked : AskedOfCalls) (text : List ℕ) (out : Output) (status : Status) : Type 0 where
  pub explanation : Explanation
  pub is_said : IsSaidOfOne known asked text explanation
  pub is_status : IsPlainStatus explanation.status status
  pub writes : IsPlainOutput explanation out status
