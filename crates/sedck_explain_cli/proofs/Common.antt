-- The names that several of these proofs cite, passed on from one place.
pub use Rattle.std.proofs.Common.{◌≡◌, ℕ, Bool, true, false, List, Option, Some, inl, inr, subst, String, ◌∙◌, None, refl, sym, ◌<◌, ◌+◌, map, take, length, get_or, ◌≢◌, Result, Ok, Err, IfOk, IfSome, ap, ◌-◌, ◌≤◌, [], ◌∷◌, drop, arith}
pub use Rattle.std.proofs.lemmas.Bool.{false≢true}
pub use Rattle.std.specs.Io.KnownBytes.{Keeps}
pub use Rattle.std.specs.Option.{option_map}
pub use Rattle.std.specs.Prelude.{fold, is_some}
pub use Rattle.std.specs.declared.alloc.Global.{Global}
pub use Rattle.sedck_answer.specs.Status.{IsOfAnswer, worse}
pub use Rattle.sedck_answer.specs.declared.explanation.Explanation.{Explanation}
pub use Rattle.sedck_answer.specs.declared.status.Status.{Status}
pub use Rattle.sedck_answer.specs.declared.status.Status.TheVariants.{Accepted, Refused, Failed, Misused, Unknown}
pub use Rattle.sedck_call.specs.declared.call.Call.{Call}
pub use Rattle.sedck_calls_in_files.specs.Delivered.{IsDelivered}
pub use Rattle.sedck_calls_in_files.specs.Scanned.{Holds, IsWorstOf}
pub use Rattle.sedck_engines.specs.Opened.{Known}
pub use Rattle.sedck_engines.specs.declared.answer.RunFault.{RunFault}
pub use Rattle.sedck_errors.specs.declared.denied.Denied.{Denied}
pub use Rattle.sedck_explain_cli.specs.Answers.{call_of}
pub use Rattle.sedck_explain_cli.specs.CallStatus.{HasCallStatus}
pub use Rattle.sedck_explain_cli.specs.Explained.{IsExplained}
pub use Rattle.sedck_explain_cli.specs.Mended.{IsOfMendedCall, IsUnder}
pub use Rattle.sedck_explain_cli.specs.Private.Readings.{asked_of}
pub use Rattle.sedck_explain_cli.specs.Private.Said.{IsSaid, IsJudgedCall, IsExplainedUnder}
pub use Rattle.sedck_explain_cli.specs.Readings.{texts_of, Asked, after, nothing_asked, is_named}
pub use Rattle.sedck_explain_cli.specs.Requests.{scripts_of, asked_by, is_plain, certificate_of}
pub use Rattle.sedck_explain_cli.specs.Spelled.{IsIn, IsPlainly, SpellsScript, SpellsFound, IsAnsweredCall}
pub use Rattle.sedck_explain_cli.specs.Statuses.{StatusAt, IsGiven}
pub use Rattle.sedck_explain_cli.specs.declared.request.Request.{Request}
pub use Rattle.sedck_explanation.proofs.Answering.{on_ok}
pub use Rattle.sedck_explanation.specs.Called.{has_foreign, IsCalled}
pub use Rattle.sedck_explanation.specs.Explanations.{IsExplanation}
pub use Rattle.sedck_formats.specs.Plain.{Output, Writes}
