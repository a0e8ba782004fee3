-- What is written of an explanation in one way or another.
use Rattle.sedck_calls_in_files.proofs.Common.{◌≡◌, ◌∙◌, ℕ, List, Option, Some, None, Result, Ok, Err, IfOk, IfSome, true≢false, Explanation, Status, Accepted, Output, IsPlainReport}
use Rattle.std.proofs.Common.{OnOk}
use Rattle.std.specs.Prelude.{is_some}
use Rattle.std.specs.Io.KnownBytes.{Keeps, Appends}
use Rattle.std.proofs.lemmas.Bool.{false≢true}
use Rattle.sedck_plain.specs.declared.layout.Comments.{Comments}
use Rattle.sedck_formats.proofs.PlainReports.{plain_output, same_report}
use Rattle.sedck_calls_in_files.specs.Delivered.{IsDelivered}

pub as_report : {E : Type 0} (plain : Option Comments) (known : Option (List ℕ)) (e : Explanation) (report : List ℕ) (out err : Output) (r : Result Status E)
    → plain ≡ None → IfSome known (λ bytes. report ≡ bytes) → IfOk r (λ status. status ≡ e.status) → OnOk r (Appends out.before out.after report)
    → Keeps err.before err.after → IfOk r (IsDelivered (is_some plain) known e out err)
as_report plain known e report out err (Ok status) is made same whole kept = rw is (record {
  is_status = same;
  reported = λ other. (report, made, whole);
  writes = λ plainly. absurd (false≢true plainly);
  silent = λ either. kept;
})
as_report plain known e report out err (Err why) is made same whole kept = tt

-- an accepted script in its plain spelling
pub as_script : {E : Type 0} (plain : Option Comments) (comments : Comments) (known : Option (List ℕ)) (e : Explanation) (text : List ℕ) (judged : Status) (out err : Output)
    (r : Result Status E) → plain ≡ Some comments → judged ≡ Accepted → IsPlainReport e text judged → IfOk r (λ status. status ≡ judged)
    → OnOk r (Appends out.before out.after text) → Keeps err.before err.after → IfOk r (IsDelivered (is_some plain) known e out err)
as_script plain comments known e text judged out err (Ok status) is judged_yes made same whole kept =
    let report = same_report e text judged status made same in
    rw is (record {
      is_status = report.is_status;
      reported = λ other. absurd (true≢false other);
      writes = λ plainly. plain_output e text out status report (λ accepted. whole) (λ other. absurd (other (same ∙ judged_yes)));
      silent = λ either. kept;
    })
as_script plain comments known e text judged out err (Err why) is judged_yes made same whole kept = tt
