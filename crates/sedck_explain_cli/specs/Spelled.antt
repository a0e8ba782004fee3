-- What is written in the format `sed`, and its exit status, this project's own.
use Rattle.std.specs.Prelude.{◌≡◌, ◌≢◌, ◌⊎◌, ℕ, Bool, true, false, MatchBool, List, [], ◌∷◌, Option, None}
use Rattle.std.specs.Io.KnownBytes.{Keeps, Appends}
use Rattle.sedck_plain.specs.Plain.{SpellSame}
use Rattle.sedck_plain.specs.Mended.{IsMended}
use Rattle.sedck_call.specs.Calls.{IsCall}
use Rattle.sedck_call.specs.Scripts.{joined_texts}
use Rattle.sedck_call.specs.declared.call.Call.{Call}
use Rattle.sedck_engines.specs.Inputs.{IsRead}
use Rattle.sedck_engines.specs.Opened.{Known}
use Rattle.sedck_errors.specs.declared.denied.Denied.{Denied}
use Rattle.sedck_explanation.specs.Called.{AreParts, IsAcceptedCall, known_bytes}
use Rattle.sedck_explanation.specs.Explanations.{IsExplanation}
use Rattle.sedck_answer.specs.declared.explanation.Explanation.{Explanation}
use Rattle.sedck_answer.specs.declared.status.Status.{Status}
use Rattle.sedck_answer.specs.declared.status.Status.TheVariants.{Accepted, Unknown}
use Rattle.sedck_formats.specs.Plain.{Output, IsPlainStatus}
use Rattle.sedck_calls_in_files.specs.Judged.{AskedOfCalls}
use Rattle.sedck_calls_in_files.specs.Scanned.{Holds, SpellsOne}
use Rattle.sedck_explain_cli.specs.CallStatus.{HasCallStatus}
use Rattle.sedck_explain_cli.specs.Mended.{IsOfMended, IsOfAnswerUnder, IsUnder}
use Rattle.sedck_explain_cli.specs.Requests.{certificate_of}
use Rattle.sedck_explain_cli.specs.Statuses.{IsGiven}
use Rattle.sedck_explain_cli.specs.declared.request.Request.{Request}

-- the status of what has this one, or that of what is refused where it is accepted and has no plain spelling
abbrev pub IsPlainly : (Status → Type 0) → Status → Type 0
IsPlainly Has status = (judged : Status) × Has judged × IsPlainStatus judged status

-- in that format, or in another one
abbrev pub IsIn : Bool → (Status → Type 0) → Status → Type 0
IsIn plain Has status = MatchBool plain (IsPlainly Has status) (Has status)

-- a text is written that spells what the script's text spells
abbrev pub Copies : List ℕ → Output → Type 0
Copies script out = (text : List ℕ) × SpellSame script text × Appends out.before out.after text

-- that is written where it is accepted; else nothing is
pub record WritesSame (script : List ℕ) (out : Output) (status : Status) : Type 0 where
  pub spelled : status ≡ Accepted → Copies script out
  pub kept : status ≢ Accepted → Keeps out.before out.after

-- a text is written that spells what the script's text spells with other delimiters, which is explained and accepted
pub record CopiesMended (denied : Denied) (script : List ℕ) (out : Output) : Type 0 where
  pub mended : List ℕ
  pub is_mended : IsMended script mended
  pub explanation : Explanation
  pub is_explanation : IsExplanation mended None denied explanation
  pub is_yes : explanation.status ≡ Accepted
  pub copies : Copies mended out

-- the script's copy is written where it is accepted; where mends are asked for, that of the text with other delimiters under a condition; else nothing is
pub record WritesUnder (mends : Bool) (denied : Denied) (script : List ℕ) (out : Output) (status : Status) : Type 0 where
  pub spelled : status ≡ Accepted → Copies script out
  pub mended : status ≡ Unknown → (mends ≡ true) × CopiesMended denied script out
  pub kept : status ≢ Accepted → status ≢ Unknown → Keeps out.before out.after

-- the explanation of a script's text, and of a certificate's where there is one, has this status; and this is written
pub record IsSpelled (mends : Bool) (text : List ℕ) (given : Option (List ℕ)) (denied : Denied) (out : Output) (status : Status) : Type 0 where
  pub explanation : Explanation
  pub is_explanation : IsExplanation text given denied explanation
  pub is_status : IsPlainly (IsUnder mends (IsOfMended denied text) explanation.status) status
  pub writes : WritesUnder mends denied text out status

-- so it is for what is read of the script at the path, and of the request's certificate, whose explanation the status is of
pub record SpellsAt (k : Known) (request : Request) (path : List ℕ) (out : Output) (status : Status) : Type 0 where
  pub text : List ℕ
  pub is_text : IsRead 1048577 (known_bytes k path) text
  pub given : Option (List ℕ)
  pub is_given : IsGiven k (certificate_of request) given
  pub is_spelled : IsSpelled request.mends text given request.denied out status

-- and of the only script at these paths
abbrev pub SpellsScript : Known → Request → List (List ℕ) → Output → Status → Type 0
SpellsScript k request (path ∷ []) out status = SpellsAt k request path out status
SpellsScript k request _ out status = ⊥

-- where it is accepted a text is written that spells the script of one of the calls that are found in the only file at these paths
abbrev pub SpellsFound : Known → (List ℕ → List ℕ → Option Holds) → AskedOfCalls → List (List ℕ) → Output → Status → Type 0
SpellsFound k found asked (path ∷ []) out status = SpellsOne k found asked path out status
SpellsFound k found asked _ out status = ⊥

-- the call with these words is accepted, and what its script spells is written, its parts joined
abbrev pub CopiesCall : Known → Denied → List (List ℕ) → Output → Type 0
CopiesCall k denied words out = (yes : IsAcceptedCall k denied words) × Copies (joined_texts yes.parts) out

-- the words are a call, and so it is written of its script, its parts joined
pub record CopiesMendedCall (k : Known) (denied : Denied) (words : List (List ℕ)) (out : Output) : Type 0 where
  pub call : Call
  pub is_call : IsCall words call
  pub parts : List (List ℕ)
  pub are_parts : AreParts k words call.pieces.items parts
  pub copies : CopiesMended denied (joined_texts parts) out

-- that is so where it is accepted; where mends are asked for, it is written with other delimiters under a condition; else nothing is
pub record SpellsCall (mends : Bool) (k : Known) (denied : Denied) (words : List (List ℕ)) (out : Output) (status : Status) : Type 0 where
  pub spelled : status ≡ Accepted → CopiesCall k denied words out
  pub mended : status ≡ Unknown → (mends ≡ true) × CopiesMendedCall k denied words out
  pub kept : status ≢ Accepted → status ≢ Unknown → Keeps out.before out.after

-- What holds of the call with these words where it is explained, in the format `sed` or in another one: its status is one of an answer,
-- that of the call; in that format what its script spells is written, and only then anything is on standard error; and what a yes says.
pub record IsAnsweredCall (mends plain : Bool) (k : Known) (denied : Denied) (words : List (List ℕ)) (out err : Output) (status : Status) : Type 0 where
  pub few : IsOfAnswerUnder mends status
  pub has_status : IsIn plain (HasCallStatus mends k denied words) status
  pub spelled : plain ≡ true → SpellsCall mends k denied words out status
  pub silent : (plain ≡ false) ⊎ (status ≡ Accepted) → Keeps err.before err.after
  pub yes : status ≡ Accepted → IsAcceptedCall k denied words
