-- The script of a call of sed, and when a call is accepted, this project's own.
use Rattle.std.specs.Prelude.{◌≡◌, ℕ, ◌&&◌, Bool, true, false, MatchBool, List, [], ◌∷◌, Option, None, codes, if◌then◌else◌}
use Rattle.std.specs.Str.{bytes_eq}
use Rattle.std.specs.List.{list_any}
use Rattle.sedck_call.specs.Calls.{IsCall}
use Rattle.sedck_call.specs.Scripts.{joined_texts}
use Rattle.sedck_call.specs.Origins.{end_of_word}
use Rattle.sedck_call.specs.declared.option.CallOption.{CallOption}
use Rattle.sedck_call.specs.declared.option.CallOption.TheVariants as option
use Rattle.sedck_call.specs.declared.given.Given.{Given}
use Rattle.sedck_call.specs.declared.given.Given.TheVariants.{Alone, With, Operand}
use Rattle.sedck_call.specs.declared.call.Piece.{Piece}
use Rattle.sedck_call.specs.declared.call.Piece.TheVariants.{Text, File}
use Rattle.sedck_call.specs.declared.call.Call.{Call}
use Rattle.sedck_engines.specs.Inputs.{IsRead}
use Rattle.sedck_engines.specs.Opened.{Known}
use Rattle.sedck_report.specs.Files.{is_there}
use Rattle.sedck_report.specs.Levels.{has_locale, has_error}
use Rattle.sedck_report.specs.declared.code.Code.TheVariants.{InPlace}
use Rattle.sedck_errors.specs.Denials.{denies}
use Rattle.sedck_errors.specs.declared.denied.Denied.{Denied}
use Rattle.sedck_explanation.specs.Denial.{warns_of_denied}
use Rattle.sedck_explanation.specs.Explanations.{IsExplanation, Keeps}
use Rattle.sedck_answer.specs.Status.{is_accepted}
use Rattle.sedck_answer.specs.declared.status.Status.{Status}
use Rattle.sedck_answer.specs.declared.status.Status.TheVariants.{Accepted, Rejected}
use Rattle.sedck_answer.specs.declared.explanation.Explanation.{Explanation}

-- An option that makes sed read another language than that of the model: extended expressions. With `-s` and `-i` there are several
-- inputs, each with its last line, and with `-z` a byte 0 ends a line: of these the promise is the same.
abbrev pub changes_language : CallOption → Bool
changes_language option.Extended = true
changes_language _ = false

abbrev pub is_foreign : Given → Bool
is_foreign (Alone o n) = changes_language o
is_foreign (With o at) = changes_language o
is_foreign (Operand n) = false

-- one of the options does
abbrev pub has_foreign : List Given → Bool
has_foreign given = list_any is_foreign given

-- `-i`, or `-I` of the BSDs: sed overwrites its operands
abbrev pub overwrites : CallOption → Bool
overwrites option.InPlace = true
overwrites option.InPlaceSuffix = true
overwrites _ = false

abbrev pub is_overwriting : Given → Bool
is_overwriting (Alone o n) = overwrites o
is_overwriting (With o at) = overwrites o
is_overwriting (Operand n) = false

-- the call overwrites an operand
abbrev pub is_in_place : Call → Bool
is_in_place call = is_there call.inputs.items && list_any is_overwriting call.given.items

-- the script is accepted, but the call overwrites an operand, and writing is denied
abbrev pub is_denied_call : Denied → Call → Status → Bool
is_denied_call denied call status = is_accepted status && (denied.writes && is_in_place call)

-- the same, rejected and with an error
pub record IsDenied (text : List ℕ) (judged e : Explanation) : Type 0 where
  pub is_text : e.text.now ≡ text
  pub answer : e.answer ≡ judged.answer
  pub status : e.status ≡ Rejected
  pub errors : has_error e.findings.items ≡ true
  pub locale : has_locale e.findings.items ≡ has_locale judged.findings.items
  pub keeps : Keeps text e.answer e

-- What is said of a call whose script is this text: what is said of the text, but where that is denied for an operand that is
-- overwritten. This is a warning too, which no comment of the script ignores where it is denied.
pub record IsCalled (text : List ℕ) (denied : Denied) (call : Call) (e : Explanation) : Type 0 where
  pub judged : Explanation
  pub is_explanation : IsExplanation text None denied judged
  pub warned : denies denied.warnings InPlace ≡ true → is_in_place call ≡ true → warns_of_denied denied judged.findings.items ≡ true
  pub said : MatchBool (is_denied_call denied call judged.status) (IsDenied text judged e) (e ≡ judged)

-- the bytes that are read for a path, where they are known: `-` is standard input, of which nothing is
abbrev pub known_bytes : Known → List ℕ → Option (List ℕ)
known_bytes k path = if bytes_eq path (codes "-") then None else k.bytes_at path

-- a part of the script: the end of a word, or what was read of the file whose path that is
abbrev pub IsPart : Known → List (List ℕ) → Piece → List ℕ → Type 0
IsPart k words (Text at) part = part ≡ end_of_word words at
IsPart k words (File at) part = IsRead 1048577 (known_bytes k (end_of_word words at)) part

-- one for each piece
abbrev pub AreParts : Known → List (List ℕ) → List Piece → List (List ℕ) → Type 0
AreParts k words [] parts = parts ≡ []
AreParts k words (piece ∷ pieces) parts =
    (part : List ℕ) × (others : List (List ℕ)) × (parts ≡ part ∷ others) × IsPart k words piece part × AreParts k words pieces others

-- The call with these words is accepted: no option changes the language, and the script, its parts joined, is explained and accepted.
pub record IsAcceptedCall (k : Known) (denied : Denied) (words : List (List ℕ)) : Type 0 where
  pub call : Call
  pub is_call : IsCall words call
  pub is_judged : has_foreign call.given.items ≡ false
  pub parts : List (List ℕ)
  pub are_parts : AreParts k words call.pieces.items parts
  pub explanation : Explanation
  pub is_explanation : IsExplanation (joined_texts parts) None denied explanation
  pub is_yes : explanation.status ≡ Accepted
