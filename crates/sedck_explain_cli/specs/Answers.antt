-- The exit status of the program, by its arguments and by what is known of the files that they name, this project's own.
use Rattle.std.specs.Prelude.{◌≡◌, ◌⊎◌, ◌||◌, ℕ, Bool, true, false, MatchBool, List, [], ◌∷◌, map, Option, Some, None, codes, String, string_bytes}
use Rattle.std.specs.Option.{option_map}
use Rattle.std.specs.Str.{bytes_eq}
use Rattle.std.specs.declared.alloc.Global.{Global}
use Rattle.sedck_engines.specs.Opened.{Known}
use Rattle.sedck_errors.specs.declared.denied.Denied.{Denied}
use Rattle.sedck_answer.specs.declared.status.Status.{Status}
use Rattle.sedck_answer.specs.declared.status.Status.TheVariants.{Accepted}
use Rattle.sedck_formats.specs.Plain.{Output}
use Rattle.sedck_calls_in_files.specs.Judged.{AskedOfCalls}
use Rattle.sedck_calls_in_files.specs.Scanned.{Holds, PathStatus, OneStatus, IsWorstOf}
use Rattle.sedck_explain_cli.specs.CallStatus.{HasCallStatus}
use Rattle.sedck_explain_cli.specs.Readings.{texts_of, read}
use Rattle.sedck_explain_cli.specs.Requests.{scripts_of, asked_by, is_plain, is_plain_name, IsRequest}
use Rattle.sedck_explain_cli.specs.Spelled.{IsPlainly, SpellsScript, SpellsFound, SpellsCall}
use Rattle.sedck_explain_cli.specs.declared.request.Request.{Request}
use Rattle.sedck_explain_cli.specs.declared.words.Words.{Words}
use Rattle.sedck_explain_cli.specs.Statuses.{StatusAt}

-- ---- The words

-- those of the program itself
abbrev pub own_of : Words → List (List ℕ)
own_of words = texts_of words.own.items

-- those of a call of sed, if they are given
abbrev pub call_of : Words → Option (List (List ℕ))
call_of words = option_map (λ call. map (λ word. word.items) call.items) words.call

-- the word asks for the help or the version
abbrev pub is_help : List ℕ → Bool
is_help word = bytes_eq word (codes "-h") || bytes_eq word (codes "-V") || bytes_eq word (codes "--help") || bytes_eq word (codes "--version")

abbrev pub is_help_word : String Global → Bool
is_help_word word = is_help (string_bytes word)

-- that is the only word
abbrev pub asks_for_help : List (String Global) → Bool
asks_for_help (word ∷ []) = is_help_word word
asks_for_help _ = false

-- ---- The status

-- the words of a call are given, and it has this status
abbrev pub IsStatusOfCall : Bool → Known → Denied → Option (List (List ℕ)) → Status → Type 0
IsStatusOfCall mends k denied None status = ⊥
IsStatusOfCall mends k denied (Some words) status = HasCallStatus mends k denied words status

-- the status of what is asked for: of calls of sed in files, which may have these; of the call with these words; or of scripts
abbrev pub HasJudgedStatus : Known → (Status → Type 0) → Request → Option (List (List ℕ)) → Status → Type 0
HasJudgedStatus k OfFound request call status =
    MatchBool request.calls (OfFound status)
    (MatchBool request.sed (IsStatusOfCall request.mends k request.denied call status) (IsWorstOf (StatusAt k request) Accepted (scripts_of request) status))

-- the status of one of the calls that are found in the file at the only path
abbrev pub HasOneStatus : Known → (List ℕ → List ℕ → Option Holds) → AskedOfCalls → List (List ℕ) → Status → Type 0
HasOneStatus k found asked (path ∷ []) status = OneStatus k found asked path status
HasOneStatus k found asked _ status = ⊥

-- the same in the format that is asked for; calls in files are found so
abbrev pub HasStatusFor : Known → (List ℕ → List ℕ → Option Holds) → Request → Option (List (List ℕ)) → Status → Type 0
HasStatusFor k found request call status =
    MatchBool (is_plain request.format)
    (IsPlainly (HasJudgedStatus k (HasOneStatus k found (asked_by request) (scripts_of request)) request call) status)
    (HasJudgedStatus k (IsWorstOf (PathStatus k found (asked_by request)) Accepted (scripts_of request)) request call status)

-- the words ask for scripts in their plain spelling
abbrev pub asks_for_plain : Words → Bool
asks_for_plain words = is_plain_name (read (own_of words)).format

-- the words are a request, and this is its status; or they ask for the help or the version, which is a yes
abbrev pub IsAnswered : Known → (List ℕ → List ℕ → Option Holds) → Words → Status → Type 0
IsAnswered k found words status =
    ((request : Request) × IsRequest (own_of words) request × HasStatusFor k found request (call_of words) status)
    ⊎ ((status ≡ Accepted) × (asks_for_help words.own.items ≡ true))

-- ---- What is written in the format `sed`

-- the words of a call are given, and what its script spells is written where it is accepted, or another text under a condition; else nothing
abbrev pub SpellsGiven : Bool → Known → Denied → Option (List (List ℕ)) → Output → Status → Type 0
SpellsGiven mends k denied None out status = ⊥
SpellsGiven mends k denied (Some words) out status = SpellsCall mends k denied words out status

-- so it is of what is asked for: of a call in a file, of the call with these words, or of a script
abbrev pub SpellsFor : Known → (List ℕ → List ℕ → Option Holds) → Request → Option (List (List ℕ)) → Output → Status → Type 0
SpellsFor k found request call out status =
    MatchBool request.calls (SpellsFound k found (asked_by request) (scripts_of request) out status)
    (MatchBool request.sed (SpellsGiven request.mends k request.denied call out status) (SpellsScript k request (scripts_of request) out status))

-- the words are a request, and where it is for that format this is written; or they ask for the help or the version
abbrev pub IsWritten : Known → (List ℕ → List ℕ → Option Holds) → Words → Output → Status → Type 0
IsWritten k found words out status =
    ((request : Request) × IsRequest (own_of words) request × (is_plain request.format ≡ true → SpellsFor k found request (call_of words) out status))
    ⊎ (asks_for_help words.own.items ≡ true)
