-- The levels of findings, this project's own.
use Rattle.std.specs.Prelude.{◌≡◌, ◌&&◌, Bool, true, false, List, [], ◌∷◌, Option}
use Rattle.std.specs.List.{list_any}
use Rattle.sedck_report.specs.declared.code.Code.{Code}
use Rattle.sedck_report.specs.declared.code.Code.TheVariants as code
use Rattle.sedck_report.specs.declared.finding.Finding.{Finding}
use Rattle.sedck_report.specs.declared.finding.Level.{Level}
use Rattle.sedck_report.specs.declared.finding.Level.TheVariants.{Error, Warning}
use Rattle.sedck_report.specs.declared.places.Position.{Position}

abbrev pub is_error : Level → Bool
is_error Error = true
is_error _ = false

-- one of these findings is an error
abbrev pub has_error : List Finding → Bool
has_error findings = list_any (λ finding. is_error finding.level) findings

-- the first finding is an error at this position, or at none
abbrev pub BeginsWithError : Option Position → List Finding → Type 0
BeginsWithError position [] = ⊥
BeginsWithError position (finding ∷ more) = (finding.level ≡ Error) × (finding.position ≡ position)

abbrev pub is_warning : Level → Bool
is_warning Warning = true
is_warning _ = false

-- one of these findings is a warning
abbrev pub has_warning : List Finding → Bool
has_warning findings = list_any (λ finding. is_warning finding.level) findings

-- one of these findings is a warning with a code of this kind
abbrev pub warns_of : (kind : Code → Bool) → List Finding → Bool
warns_of kind findings = list_any (λ finding. is_warning finding.level && kind finding.code) findings

abbrev pub is_locale : Code → Bool
is_locale code.Locale = true
is_locale _ = false

-- one of these findings is the warning `locale`
abbrev pub has_locale : List Finding → Bool
has_locale findings = list_any (λ finding. is_warning finding.level && is_locale finding.code) findings
