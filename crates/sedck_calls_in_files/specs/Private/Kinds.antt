-- What stays of findings where their positions change, and warnings that are put among them.
use Rattle.std.specs.Prelude.{◌≡◌, ℕ, false, List, map}
use Rattle.sedck_report.specs.Levels.{is_locale}
use Rattle.sedck_report.specs.declared.code.Code.{Code}
use Rattle.sedck_report.specs.declared.finding.Finding.{Finding}
use Rattle.sedck_report.specs.declared.finding.Level.{Level}
use Rattle.sedck_report.specs.declared.finding.Level.TheVariants.{Warning}
use Rattle.sedck_calls_in_files.specs.Placed.{IsFindingIn}

-- the level and the code of each
abbrev pub kind_of : Finding → Level × Code
kind_of finding = (finding.level, finding.code)

abbrev pub kinds_of : List Finding → List (Level × Code)
kinds_of findings = map kind_of findings

-- a warning with a position in the file, which isn't `locale`
pub record IsWarningIn (file : List ℕ) (finding : Finding) : Type 0 where
  pub placed : IsFindingIn file finding
  pub level : finding.level ≡ Warning
  pub code : is_locale finding.code ≡ false
