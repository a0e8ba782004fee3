-- What was read of a file, and the status of it.
use Rattle.std.specs.Prelude.{◌≡◌, ◌⊎◌, ℕ, Bool, false, IsTrue, List, Option, None, IfSome}
use Rattle.sedck_engines.specs.Opened.{Known}
use Rattle.sedck_explanation.specs.Called.{known_bytes}
use Rattle.sedck_answer.specs.declared.status.Status.{Status}
use Rattle.sedck_answer.specs.declared.status.Status.TheVariants.{Accepted, Failed}
use Rattle.sedck_calls_in_files.specs.Judged.{AskedOfCalls}
use Rattle.sedck_calls_in_files.specs.Scanned.{Holds, TextStatus}
use Rattle.sedck_calls_in_files.specs.declared.reading.Contents.{Contents}
use Rattle.sedck_calls_in_files.specs.declared.reading.Contents.TheVariants.{Text, Other, TooLong, Unopened, Unreadable}

-- what is held by an open file that has these bytes, where they are known; whether a read has failed
abbrev pub IsContents : Bool → Option (List ℕ) → Bool → Contents → Type 0
IsContents given left failed (Text kind text) = IfSome left (λ bytes. text.items ≡ bytes)
IsContents given left failed Other = given ≡ false
IsContents given left failed TooLong = Unit {0}
IsContents given left failed Unopened = ⊥
IsContents given left failed Unreadable = IsTrue failed

-- What is held by a file that is given by its path: its bytes, where they are known; if it is unreadable, a read may fail, or nothing is
-- known of it.
abbrev pub IsHeldAt : Known → List ℕ → Contents → Type 0
IsHeldAt k path (Text kind text) = IfSome (known_bytes k path) (λ bytes. text.items ≡ bytes)
IsHeldAt k path Other = ⊥
IsHeldAt k path TooLong = Unit {0}
IsHeldAt k path Unopened = Unit {0}
IsHeldAt k path Unreadable = k.may_fail ⊎ (known_bytes k path ≡ None)

-- the status of a file that holds this
abbrev pub ContentsStatus : (List ℕ → Option Holds) → AskedOfCalls → Contents → Status → Type 0
ContentsStatus found asked (Text kind text) status = TextStatus (found text.items) asked text.items status
ContentsStatus found asked Other status = status ≡ Accepted
ContentsStatus found asked _ status = status ≡ Failed
