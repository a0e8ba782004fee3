-- The names that several of these proofs cite, passed on from one place.
pub use Rattle.std.proofs.Common.{◌≡◌, ℕ, List, Option, Some, None, Result, Ok, Err, IfOk, IfSome, refl, ◌∙◌, ◌||◌, Bool, true, false, not, [], ◌∷◌, ap, length, map, sym, subst, ◌++◌, ◌+◌, take, ◌&&◌}
pub use Rattle.std.proofs.lemmas.Bool.{false≢true}
pub use Rattle.std.proofs.lemmas.List.Elements.{All-head}
pub use Rattle.sedck_advice.proofs.Added.{no_error_append, warned_behind}
pub use Rattle.sedck_advice.specs.Added.{AddsNoError}
pub use Rattle.sedck_answer.specs.Answers.{KeepsNothing}
pub use Rattle.sedck_answer.specs.Status.{is_accepted}
pub use Rattle.sedck_answer.specs.declared.answer.Answer.{Answer}
pub use Rattle.sedck_answer.specs.declared.answer.Answer.TheVariants.{CertificateRefused, Accepted, Rejected, Endless, ScriptRefused, NotJudged}
pub use Rattle.sedck_answer.specs.declared.explanation.Explanation.{Explanation}
pub use Rattle.sedck_answer.specs.declared.status.Status.{Status}
pub use Rattle.sedck_cert.specs.Certificate.{Certificate}
pub use Rattle.sedck_cert.specs.Headline.{Only}
pub use Rattle.sedck_commands.proofs.ResultLemmas.{if_some_at}
pub use Rattle.sedck_commands.specs.Items.{Item, Items}
pub use Rattle.sedck_commands.specs.Locations.{locations_of}
pub use Rattle.sedck_commands.specs.Program.{Program}
pub use Rattle.sedck_engines.specs.Opened.{Known}
pub use Rattle.sedck_errors.specs.Denials.{denies}
pub use Rattle.sedck_errors.specs.declared.denied.Denied.{Denied}
pub use Rattle.sedck_errors.specs.declared.warnings.DeniedWarnings.{DeniedWarnings}
pub use Rattle.sedck_explanation.specs.Answers.{IsAnswer}
pub use Rattle.sedck_explanation.specs.Called.{AreParts}
pub use Rattle.sedck_explanation.specs.Denial.{is_denied, status_under, warns_of_denied, expressions_of}
pub use Rattle.sedck_explanation.specs.Errors.{BeginsWithAnswer}
pub use Rattle.sedck_explanation.specs.Explanations.{IsExplanation}
pub use Rattle.sedck_explanation.specs.Private.Errors.{IsRefused, AreFindingsOf, IsFindingOf}
pub use Rattle.sedck_explanation.specs.Private.Explaining.{AreDeniedFindings, Explains, KeepsLocated}
pub use Rattle.sedck_explanation.specs.Private.Reporting.{errors_in, AreReported}
pub use Rattle.sedck_explanation.specs.declared.answer.Expressions.{Expressions}
pub use Rattle.sedck_report.specs.Levels.{is_error, has_error, BeginsWithError, warns_of, has_locale, is_warning}
pub use Rattle.sedck_report.specs.Positions.{position_in}
pub use Rattle.sedck_report.specs.Reported.{AreOf, AreInOrder, head_of}
pub use Rattle.sedck_report.specs.declared.code.Code.{Code}
pub use Rattle.sedck_report.specs.declared.finding.Finding.{Finding}
pub use Rattle.sedck_report.specs.declared.finding.Level.TheVariants.{Error}
pub use Rattle.sedck_report.specs.declared.places.Position.{Position}
pub use Rattle.sedck_script.specs.Spelling.{Spells}
