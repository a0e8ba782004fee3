-- From a report in the format `sed` to what is written of it.
use Rattle.std.proofs.Common.{◌≡◌, ◌≢◌, ℕ, List, Option, Some, None, IfSome, sym, subst}
use Rattle.std.specs.Io.KnownBytes.{Keeps, Appends}
use Rattle.sedck_commands.specs.Program.{Program}
use Rattle.sedck_script.specs.Spelling.{Spells}
use Rattle.sedck_plain.specs.WrittenLists.{HaveSameLists}
use Rattle.sedck_answer.specs.declared.explanation.Explanation.{Explanation}
use Rattle.sedck_answer.specs.declared.status.Status.{Status}
use Rattle.sedck_answer.specs.declared.status.Status.TheVariants.{Accepted}
use Rattle.sedck_formats.specs.Plain.{Output, IsPlainReport, IsPlainOutput, Writes}

-- the report, where it is the text of the script
with_report : (source : List ℕ) (script : Option Program) (out : Output) (report : List ℕ) → IfSome script (Spells report) → IfSome script (λ p. HaveSameLists source report)
    → Appends out.before out.after report → IfSome script (Writes out source)
with_report source None out report spells lists appends = tt
with_report source (Some p) out report spells lists appends = (report, spells, lists, appends)

-- the report is written only where it is accepted
pub plain_output : (e : Explanation) (report : List ℕ) (out : Output) (status : Status) → IsPlainReport e report status
    → (status ≡ Accepted → Appends out.before out.after report) → (status ≢ Accepted → Keeps out.before out.after) → IsPlainOutput e out status
plain_output e report out status is written kept = record {
  spelled = λ yes. with_report e.source.now e.script out report (is.spelled yes) (is.lists yes) (written yes);
  kept = kept;
}

-- a report with the same status
pub same_report : (e : Explanation) (report : List ℕ) (status answered : Status) → IsPlainReport e report status → answered ≡ status
    → IsPlainReport e report answered
same_report e report status answered is same = subst (IsPlainReport e report) (sym same) is
