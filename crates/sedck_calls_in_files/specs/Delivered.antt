-- What is written of an explanation: a script in its plain spelling, or a report, this project's own.
use Rattle.std.specs.Prelude.{◌≡◌, ◌⊎◌, ℕ, Bool, true, false, MatchBool, List, Option, IfSome}
use Rattle.std.specs.Io.KnownBytes.{Keeps, Appends}
use Rattle.sedck_answer.specs.declared.explanation.Explanation.{Explanation}
use Rattle.sedck_answer.specs.declared.status.Status.{Status}
use Rattle.sedck_answer.specs.declared.status.Status.TheVariants.{Accepted}
use Rattle.sedck_formats.specs.Plain.{Output, IsPlainStatus, IsPlainOutput}

-- a whole report is written, which is this one where it is known
abbrev pub WritesReport : Option (List ℕ) → Output → Type 0
WritesReport known out = (report : List ℕ) × IfSome known (λ bytes. report ≡ bytes) × Appends out.before out.after report

-- In the format `sed` or in another one, whose report may be known: the status, and what the output and the stream of errors take.
pub record IsDelivered (plain : Bool) (known : Option (List ℕ)) (e : Explanation) (out err : Output) (status : Status) : Type 0 where
  pub is_status : MatchBool plain (IsPlainStatus e.status status) (status ≡ e.status)
  pub reported : plain ≡ false → WritesReport known out
  pub writes : plain ≡ true → IsPlainOutput e out status
  pub silent : (plain ≡ false) ⊎ (status ≡ Accepted) → Keeps err.before err.after
