-- What is said of a script, and which exit status it gets, this project's own.
use Rattle.std.specs.Prelude.{◌≡◌, ◌⊎◌, ℕ, Bool, true, false, MatchBool, IsSomeAnd, List, Option, codes}
use Rattle.std.specs.Io.KnownBytes.{Keeps}
use Rattle.std.specs.Str.{bytes_eq}
use Rattle.sedck_engines.specs.Opened.{Known}
use Rattle.sedck_engines.specs.declared.answer.Input.TheVariants as input
use Rattle.sedck_engines.specs.declared.answer.RunFault.{RunFault}
use Rattle.sedck_engines.specs.declared.answer.RunFault.TheVariants as fault
use Rattle.sedck_errors.specs.declared.denied.Denied.{Denied}
use Rattle.sedck_explanation.specs.Explanations.{IsExplanation}
use Rattle.sedck_answer.specs.declared.explanation.Explanation.{Explanation}
use Rattle.sedck_answer.specs.declared.status.Status.{Status}
use Rattle.sedck_answer.specs.declared.status.Status.TheVariants.{Accepted}
use Rattle.sedck_formats.specs.Plain.{Output, IsPlainStatus}
use Rattle.sedck_calls_in_files.specs.Delivered.{WritesReport}
use Rattle.sedck_explain_cli.specs.Spelled.{WritesSame}

-- What was read of a script, and of a certificate where there is one, is explained and has this status: in the format `sed`, where the
-- script is written as it is spelled plainly, or in another one, whose whole report is written. That report is known for some.
pub record IsExplained (plain : Bool) (known : Explanation → Option (List ℕ)) (text : List ℕ) (given : Option (List ℕ)) (denied : Denied)
    (out err : Output) (status : Status) : Type 0 where
  pub explanation : Explanation
  pub is_explanation : IsExplanation text given denied explanation
  pub is_status : MatchBool plain (IsPlainStatus explanation.status status) (status ≡ explanation.status)
  pub reported : plain ≡ false → WritesReport (known explanation) out
  pub writes : plain ≡ true → WritesSame text out status
  pub silent : (plain ≡ false) ⊎ (status ≡ Accepted) → Keeps err.before err.after

-- ---- Why nothing is read

-- the file at the path may not be opened, or a read may fail
abbrev pub MayBeUnread : Known → List ℕ → Type 0
MayBeUnread k path = k.may_open path false ⊎ k.may_fail

-- By whether this may be why the script isn't read, and by the certificate's path, if it has one. Memory may run out at any time.
abbrev pub IsReasonOf : Known → Option (List ℕ) → Type 0 → RunFault → Type 0
IsReasonOf k certificate Script (fault.Read input.Script) = Script
IsReasonOf k certificate Script (fault.Read input.Certificate) = IsSomeAnd certificate (MayBeUnread k)
IsReasonOf k certificate Script fault.OutOfMemory = Unit {0}
IsReasonOf k certificate Script _ = ⊥

-- standard input may be unread at any time
abbrev pub IsReason : Known → Option (List ℕ) → List ℕ → RunFault → Type 0
IsReason k certificate path = IsReasonOf k certificate ((bytes_eq path (codes "-") ≡ true) ⊎ MayBeUnread k path)
