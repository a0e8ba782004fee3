-- The names that several of these proofs cite, passed on from one place.
pub use Rattle.std.proofs.Common.{◌≡◌, ◌∙◌, ◌+◌, ◌≤◌, ℕ, Bool, true, false, inl, inr, List, ◌++◌, length, Option, Some, None, IfSome, refl, sym, ap, subst, arith, Result, Ok, Err, IfOk, ◌<◌, take, All, [], ◌∷◌, map, get_or}
pub use Rattle.std.proofs.lemmas.Bool.{true≢false}
pub use Rattle.std.proofs.lemmas.List.Elements.{All-push, All-append}
pub use Rattle.sedck_answer.specs.Status.{worse}
pub use Rattle.sedck_answer.specs.declared.explanation.Explanation.{Explanation}
pub use Rattle.sedck_answer.specs.declared.status.Status.{Status}
pub use Rattle.sedck_answer.specs.declared.status.Status.TheVariants.{Accepted}
pub use Rattle.sedck_call.specs.Calls.{IsCall}
pub use Rattle.sedck_calls_in_files.specs.Judged.{AskedOfCalls, Agrees, KeepsFindings, has_finding, IsSaidOfFound, words_of, is_open, status_with, IsJudged, IsSaidOfCall, IsSaidOfText, IsSaidOf, IsAcceptedFound, denied_of, is_set_in}
pub use Rattle.sedck_calls_in_files.specs.Placed.{IsFindingIn, IsSomeIn}
pub use Rattle.sedck_calls_in_files.specs.Private.Contents.{IsHeldAt, ContentsStatus}
pub use Rattle.sedck_calls_in_files.specs.Private.Kinds.{IsWarningIn}
pub use Rattle.sedck_calls_in_files.specs.Scanned.{asked_of, TextStatus, PathStatus, IsWorst, IsWorstOf}
pub use Rattle.sedck_errors.specs.declared.denied.Denied.{Denied}
pub use Rattle.sedck_explanation.proofs.Answering.{on_ok}
pub use Rattle.sedck_explanation.specs.Called.{known_bytes, IsCalled}
pub use Rattle.sedck_found.specs.declared.found.FoundCall.{FoundCall}
pub use Rattle.sedck_formats.specs.Plain.{Output, IsPlainReport}
pub use Rattle.sedck_report.specs.Positions.{position_in}
