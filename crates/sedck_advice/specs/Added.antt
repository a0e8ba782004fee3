-- What stays of the findings where others are added, this project's own.
use Rattle.std.specs.Prelude.{◌≡◌, Bool, true, List, Option}
use Rattle.sedck_report.specs.Levels.{has_error, warns_of, has_locale, BeginsWithError}
use Rattle.sedck_report.specs.declared.code.Code.{Code}
use Rattle.sedck_report.specs.declared.finding.Finding.{Finding}
use Rattle.sedck_report.specs.declared.places.Position.{Position}

-- findings are added after the others, and none of them is an error
pub record AddsNoError (old new : List Finding) : Type 0 where
  pub errors : has_error new ≡ has_error old
  pub warned : (kind : Code → Bool) → warns_of kind old ≡ true → warns_of kind new ≡ true
  pub first : (position : Option Position) → BeginsWithError position old → BeginsWithError position new

-- the same, and none of them is the warning `locale`
pub record AddsOthers (old new : List Finding) : Type 0 where
  pub adds : AddsNoError old new
  pub locale : has_locale new ≡ has_locale old
