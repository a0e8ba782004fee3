-- The steps from what is found to what is reported.
use Rattle.std.specs.Prelude.{◌≡◌, ℕ, List, map}
use Rattle.std.specs.List.{All, filter}
use Rattle.sedck_report.specs.Levels.{warns_of, has_locale, is_error}
use Rattle.sedck_report.specs.Reported.{head_of, AreInOrder, HasRange}
use Rattle.sedck_report.specs.declared.finding.Finding.{Finding}
use Rattle.sedck_errors.specs.Denials.{denies}
use Rattle.sedck_errors.specs.declared.warnings.DeniedWarnings.{DeniedWarnings}

-- the errors among findings
abbrev pub errors_in : List Finding → List Finding
errors_in findings = filter (λ finding. is_error finding.level) findings

-- the same errors in the same order, whatever else there is
abbrev pub KeepsErrors : List Finding → List Finding → Type 0
KeepsErrors old new = map head_of (errors_in new) ≡ map head_of (errors_in old)

-- these findings are reported of those that were found, to a caller who denies these warnings
pub record AreReported (text : List ℕ) (denied : DeniedWarnings) (found all : List Finding) : Type 0 where
  pub errors : KeepsErrors found all
  pub warnings : warns_of (denies denied) all ≡ warns_of (denies denied) found
  pub locale : has_locale all ≡ has_locale found
  pub order : AreInOrder all
  pub ends : All (HasRange text) all
