-- The worst status, of the calls of a file and of several files, this project's own.
use Rattle.std.specs.Prelude.{◌≡◌, ◌⊎◌, ℕ, Contains, List, [], ◌∷◌, Option, IfSome}
use Rattle.sedck_engines.specs.Opened.{Known}
use Rattle.sedck_explanation.specs.Called.{known_bytes}
use Rattle.sedck_answer.specs.Status.{worse}
use Rattle.sedck_answer.specs.declared.status.Status.{Status}
use Rattle.sedck_answer.specs.declared.status.Status.TheVariants.{Accepted, Failed, Unknown}
use Rattle.sedck_answer.specs.declared.explanation.Explanation.{Explanation}
use Rattle.sedck_formats.specs.Plain.{Output, IsPlainStatus, IsPlainOutput}
use Rattle.sedck_found.specs.declared.found.Found.{Found}
use Rattle.sedck_found.specs.declared.found.FoundCall.{FoundCall}
use Rattle.sedck_calls_in_files.specs.Judged.{AskedOfCalls, IsSaidOfFound}
use Rattle.sedck_calls_in_files.specs.declared.request.Scan.{Scan}

-- what a scan asks of calls
abbrev pub asked_of : Scan → AskedOfCalls
asked_of scan = record { denied = scan.denied; assumed = scan.assumed.variables.now }

-- ---- The calls of a file

-- the worst status, of what is said of each of these calls, and of this one
abbrev pub IsWorst : List ℕ → AskedOfCalls → Status → List FoundCall → Status → Type 0
IsWorst file asked known [] status = status ≡ known
IsWorst file asked known (found ∷ more) status =
    (e : Explanation) × IsSaidOfFound file asked found e × IsWorst file asked (worse known e.status) more status

-- what is held to be in a file: the calls, and the offsets of what isn't understood
pub record Holds : Type 0 where
  pub calls : List FoundCall
  pub unread : List ℕ

-- just that was found
pub record IsFound (found : Found) (known : Holds) : Type 0 where
  pub calls : found.calls.items ≡ known.calls
  pub unread : found.unread.items ≡ known.unread

-- what isn't understood makes no yes
abbrev pub unread_status : List ℕ → Status
unread_status [] = Accepted
unread_status (offset ∷ more) = Unknown

-- The status of a text: the worst one, of what is said of the calls in it, and of what isn't understood; these are known, or
-- some.
abbrev pub TextStatus : Option Holds → AskedOfCalls → List ℕ → Status → Type 0
TextStatus known asked text status =
    (found : Found) × IfSome known (IsFound found) × IsWorst text asked (unread_status found.unread.items) found.calls.items status

-- ---- Files

-- The status of what is at a path: that of the file as a text, where its bytes are known; or that of a failure, where it can't be
-- read, or something below it. Of standard input, of files of which nothing is known, and of folders it may be any.
abbrev pub PathStatus : Known → (List ℕ → List ℕ → Option Holds) → AskedOfCalls → List ℕ → Status → Type 0
PathStatus k found asked path status =
    (status ≡ Failed) ⊎ (k.may_fail ⊎ IfSome (known_bytes k path) (λ bytes. TextStatus (found path bytes) asked bytes status))

-- ---- One call

-- this is said of one of the calls that are found in a text; these are known, or some
pub record IsSaidOfOne (known : Option Holds) (asked : AskedOfCalls) (text : List ℕ) (explanation : Explanation) : Type 0 where
  pub found : Found
  pub is_found : IfSome known (IsFound found)
  pub call : FoundCall
  pub is_one : Contains found.calls.items call
  pub is_said : IsSaidOfFound text asked call explanation

-- and so of one in the file at a path
pub record IsSaidIn (k : Known) (found : List ℕ → List ℕ → Option Holds) (asked : AskedOfCalls) (path : List ℕ) (explanation : Explanation) : Type 0 where
  pub text : List ℕ
  pub is_text : IfSome (known_bytes k path) (λ bytes. text ≡ bytes)
  pub is_said : IsSaidOfOne (found path text) asked text explanation

-- the status of what is said of one
abbrev pub OneStatus : Known → (List ℕ → List ℕ → Option Holds) → AskedOfCalls → List ℕ → Status → Type 0
OneStatus k found asked path status = (e : Explanation) × IsSaidIn k found asked path e × (status ≡ e.status)

-- where it is accepted a text is written that spells the script of what is said of one; else nothing is written
pub record SpellsOne (k : Known) (found : List ℕ → List ℕ → Option Holds) (asked : AskedOfCalls) (path : List ℕ) (out : Output) (status : Status) : Type 0 where
  pub explanation : Explanation
  pub is_said : IsSaidIn k found asked path explanation
  pub is_status : IsPlainStatus explanation.status status
  pub writes : IsPlainOutput explanation out status

-- the worst status, of those of what is at these paths, and of this one
abbrev pub IsWorstOf : (List ℕ → Status → Type 0) → Status → List (List ℕ) → Status → Type 0
IsWorstOf Has known [] status = status ≡ known
IsWorstOf Has known (path ∷ more) status = (one : Status) × Has path one × IsWorstOf Has (worse known one) more status
