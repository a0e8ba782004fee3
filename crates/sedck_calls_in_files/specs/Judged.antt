-- What is said of a call of sed in a file, this project's own.
use Rattle.std.specs.Prelude.{◌≡◌, ◌⊎◌, ◌&&◌, ◌||◌, ◌==◌, ℕ, Bool, true, false, not, MatchBool, List, [], ◌∷◌, map, codes, None, if◌then◌else◌}
use Rattle.std.specs.List.{list_all, list_any}
use Rattle.std.specs.Option.{option_map_or}
use Rattle.std.specs.Str.{bytes_eq}
use Rattle.sedck_call.specs.Calls.{IsCall}
use Rattle.sedck_call.specs.Origins.{end_of_word}
use Rattle.sedck_call.specs.Scripts.{joined_texts}
use Rattle.sedck_call.specs.declared.call.Call.{Call}
use Rattle.sedck_call.specs.declared.call.Piece.{Piece}
use Rattle.sedck_call.specs.declared.call.Piece.TheVariants as piece
use Rattle.sedck_explanation.specs.Called.{has_foreign, IsCalled}
use Rattle.sedck_report.specs.Files.{names_of}
use Rattle.sedck_report.specs.Levels.{has_error, has_locale}
use Rattle.sedck_report.specs.declared.code.Code.{Code}
use Rattle.sedck_report.specs.declared.finding.Finding.{Finding}
use Rattle.sedck_report.specs.declared.finding.Level.{Level}
use Rattle.sedck_errors.specs.declared.denied.Denied.{Denied}
use Rattle.sedck_explanation.specs.Explanations.{IsExplanation}
use Rattle.sedck_answer.specs.Status.{is_accepted}
use Rattle.sedck_answer.specs.declared.status.Status.{Status}
use Rattle.sedck_answer.specs.declared.answer.Answer.TheVariants.{NotJudged}
use Rattle.sedck_answer.specs.declared.explanation.Explanation.{Explanation}
use Rattle.sedck_answer.specs.declared.status.Status.TheVariants as exit
use Rattle.sedck_found.specs.declared.found.Assumed.{Assumed}
use Rattle.sedck_found.specs.declared.found.Followed.{Followed}
use Rattle.sedck_found.specs.declared.found.FoundCall.{FoundCall}
use Rattle.sedck_found.specs.declared.found.FoundScript.{FoundScript}
use Rattle.sedck_found.specs.declared.found.KnownValue.{KnownValue}
use Rattle.sedck_found.specs.declared.found.KnownValue.TheVariants as variant
use Rattle.sedck_found.specs.declared.found.OpenHole.{OpenHole}
use Rattle.sedck_found.specs.declared.found.FoundScript.TheVariants.{Text, Foreign, Refused, Unknown}
use Rattle.sedck_origin.specs.Traced.{is_traced, has_hole}
use Rattle.sedck_origin.specs.declared.origin.Origin.{Origin}
use Rattle.sedck_origin.specs.declared.origin.Origin.TheVariants.{Value, Given}
use Rattle.sedck_origin.specs.declared.origin.Traced.{Traced}

-- ---- What was read, against the file

-- the file has each byte of these texts where the byte's origin says
abbrev pub are_traced : List ℕ → List Traced → Bool
are_traced file texts = list_all (λ text. is_traced file text.bytes.items text.origins.items) texts

abbrev pub words_of : List Traced → List (List ℕ)
words_of words = map (λ word. word.bytes.items) words

-- the text of a part of the script that is in a word
abbrev pub piece_text : List (List ℕ) → Piece → List ℕ
piece_text words (piece.Text at) = end_of_word words at
piece_text words (piece.File at) = []

abbrev pub is_file : Piece → Bool
is_file (piece.Text at) = false
is_file (piece.File at) = true

-- the script that the words give, where all of its parts are in them
abbrev pub script_in : List (List ℕ) → List Piece → List ℕ
script_in words pieces = joined_texts (map (piece_text words) pieces)

-- the path of standard input
abbrev pub is_standard : List ℕ → Bool
is_standard path = bytes_eq path (codes "-") || bytes_eq path (codes "/dev/stdin")

-- it isn't in another file: it is in a word, or what is read from standard input
abbrev pub is_at_hand : List (List ℕ) → Piece → Bool
is_at_hand words (piece.Text at) = true
is_at_hand words (piece.File at) = is_standard (end_of_word words at)

-- The file has the words and the script where their origins say, and no part of the script is in another file. The script is just what the
-- words give, but where a part of it is read from standard input, or a byte takes the place of what is unknown.
abbrev pub is_in_file : List ℕ → List Traced → Call → Traced → Bool
is_in_file file words call text =
    (are_traced file words && is_traced file text.bytes.items text.origins.items)
    && (list_all (is_at_hand (words_of words)) call.pieces.items
    && ((has_hole text.origins.items || list_any is_file call.pieces.items)
    || bytes_eq (script_in (words_of words) call.pieces.items) text.bytes.items))

-- ---- What is said

-- it isn't judged
pub record IsUnjudged (status : Status) (e : Explanation) : Type 0 where
  pub answer : e.answer ≡ NotJudged
  pub is_status : e.status ≡ status

-- one of the findings has such a level and code
abbrev pub has_finding : (Level → Code → Bool) → List Finding → Bool
has_finding is findings = list_any (λ finding. is finding.level finding.code) findings

-- each level and code that a finding had is there, whatever positions and words are; and no error is new, and no warning `locale`
pub record KeepsFindings (before after : List Finding) : Type 0 where
  pub kept : (is : Level → Code → Bool) → has_finding is before ≡ true → has_finding is after ≡ true
  pub errors : has_error after ≡ has_error before
  pub locale : has_locale after ≡ has_locale before

-- the same answer, script, files and findings, wherever these are, beside further findings
pub record Agrees (before e : Explanation) : Type 0 where
  pub answer : e.answer ≡ before.answer
  pub script : e.script ≡ before.script
  pub reads : names_of e.reads.items ≡ names_of before.reads.items
  pub writes : names_of e.writes.items ≡ names_of before.writes.items
  pub findings : KeepsFindings before.findings.items e.findings.items

-- what is unknown before a run makes no yes
abbrev pub status_with : Bool → Status → Status
status_with partly status = if partly && is_accepted status then exit.Unknown else status

-- something is unknown: a byte of the script takes the place of it, or it is one of what the words depend on
abbrev pub is_open : Traced → List OpenHole → Bool
is_open text [] = has_hole text.origins.items
is_open text (hole ∷ holes) = true

-- it is explained as a call with this script
pub record IsJudged (denied : Denied) (call : Call) (text : Traced) (holes : List OpenHole) (e : Explanation) : Type 0 where
  pub called : Explanation
  pub is_called : IsCalled text.bytes.items denied call called
  pub agrees : Agrees called e
  pub is_status : e.status ≡ status_with (is_open text holes) called.status

-- with another language it isn't judged; nor is it known where the file doesn't have what was read
abbrev pub IsSaidOfCall : List ℕ → Denied → List Traced → Call → Traced → List OpenHole → Explanation → Type 0
IsSaidOfCall file denied words call text holes e =
    MatchBool (has_foreign call.given.items) (IsUnjudged exit.Refused e)
    (MatchBool (is_in_file file words call text) (IsJudged denied call text holes e) (IsUnjudged exit.Unknown e))

-- the words are a call
abbrev pub IsSaidOfText : List ℕ → Denied → List Traced → Traced → List OpenHole → Explanation → Type 0
IsSaidOfText file denied words text holes e =
    ((call : Call) × IsCall (words_of words) call × IsSaidOfCall file denied words call text holes e)
    ⊎ (((call : Call) → IsCall (words_of words) call → ⊥) × IsUnjudged exit.Unknown e)

-- what is denied of a call, where the words before its name may make it run in the locale C
abbrev pub denied_of : FoundCall → Denied → Denied
denied_of found denied = record denied { c_locale = denied.c_locale || found.c_locale }

-- what is said of a call, by what was found of its script
abbrev pub IsSaidOf : List ℕ → Denied → List Traced → FoundScript → Explanation → Type 0
IsSaidOf file denied words (Text call text holes) e = IsSaidOfText file denied words text holes.items e
IsSaidOf file denied words (Foreign call) e = IsUnjudged exit.Refused e
IsSaidOf file denied words (Refused fault) e = IsUnjudged exit.Refused e
IsSaidOf file denied words (Unknown why) e = IsUnjudged exit.Unknown e

-- ---- Values that the file sets

-- it isn't one that was given with the call of the program
abbrev pub is_set : KnownValue → Bool
is_set (variant.Line line) = true
is_set variant.Empty = true
is_set variant.Given = false
is_set variant.Unset = false

-- one of these variables is replaced by a value that the file sets
abbrev pub has_set : List Followed → Bool
has_set followed = list_any (λ one. is_set one.value) followed

-- the variable is assumed to have a value with the byte
abbrev pub gives : ℕ → Assumed → Bool
gives byte one = option_map_or (λ value. list_any (λ there. there == byte) value.now) one.value false

-- one of them is
abbrev pub is_assumed : List Assumed → ℕ → Bool
is_assumed assumed byte = list_any (gives byte) assumed

-- the byte is one of a value that the file sets, or one that no assumption gives
abbrev pub is_set_by : List Assumed → Origin → ℕ → Bool
is_set_by assumed (Value offset) byte = true
is_set_by assumed Given byte = not (is_assumed assumed byte)
is_set_by assumed _ byte = false

-- one of the bytes is, with these origins
abbrev pub has_set_from : List Assumed → List Origin → List ℕ → Bool
has_set_from assumed [] bytes = false
has_set_from assumed (origin ∷ origins) [] = false
has_set_from assumed (origin ∷ origins) (byte ∷ bytes) = is_set_by assumed origin byte || has_set_from assumed origins bytes

abbrev pub has_set_byte : List Assumed → Traced → Bool
has_set_byte assumed text = has_set_from assumed text.origins.items text.bytes.items

abbrev pub has_set_script : List Assumed → FoundScript → Bool
has_set_script assumed (Text call text holes) = has_set_byte assumed text
has_set_script assumed (Foreign call) = false
has_set_script assumed (Refused fault) = false
has_set_script assumed (Unknown why) = false

-- a value that the file sets is put in, as is reported, or as the origins of a word or of the script say
abbrev pub is_set_in : List Assumed → FoundCall → Bool
is_set_in assumed found =
    has_set found.followed.items || (list_any (has_set_byte assumed) found.words.items || has_set_script assumed found.script)

-- what is asked of calls in files: what is denied, and what is assumed of variables
pub record AskedOfCalls : Type 0 where
  pub denied : Denied
  pub assumed : List Assumed

-- What is said of a call that was found: what is said of its words and its script; but it is no yes where a value that the file sets is put in.
pub record IsSaidOfFound (file : List ℕ) (asked : AskedOfCalls) (found : FoundCall) (e : Explanation) : Type 0 where
  pub before : Explanation
  pub is_said : IsSaidOf file (denied_of found asked.denied) found.words.items found.script before
  pub agrees : Agrees before e
  pub is_status : e.status ≡ status_with (is_set_in asked.assumed found) before.status

-- ---- A yes

-- The call is accepted: its words are a call, none of whose options changes the language; the file has the words and the script where
-- their origins say; nothing of the script is unknown, and nothing that the words depend on; and it is explained and accepted.
pub record IsAcceptedText (file : List ℕ) (denied : Denied) (words : List Traced) (text : Traced) (holes : List OpenHole) : Type 0 where
  pub call : Call
  pub is_call : IsCall (words_of words) call
  pub is_judged : has_foreign call.given.items ≡ false
  pub in_file : is_in_file file words call text ≡ true
  pub known : has_hole text.origins.items ≡ false
  pub unconditional : holes ≡ []
  pub explanation : Explanation
  pub is_explanation : IsExplanation text.bytes.items None denied explanation
  pub is_yes : explanation.status ≡ exit.Accepted

-- the call has a script, and is accepted
abbrev pub IsAcceptedScript : List ℕ → Denied → List Traced → FoundScript → Type 0
IsAcceptedScript file denied words (Text call text holes) = IsAcceptedText file denied words text holes.items
IsAcceptedScript file denied words _ = ⊥

-- so has a call that was found, and no value that the file sets is put in
pub record IsAcceptedFound (file : List ℕ) (asked : AskedOfCalls) (found : FoundCall) : Type 0 where
  pub accepted : IsAcceptedScript file (denied_of found asked.denied) found.words.items found.script
  pub unset : is_set_in asked.assumed found ≡ false
