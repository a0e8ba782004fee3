-- Warnings that are denied.
use Rattle.std.proofs.Common.{◌≡◌, ◌∙◌, ◌||◌, ◌&&◌, Bool, true, false, List, [], ◌∷◌, ◌++◌, refl, ap}
use Rattle.std.proofs.lemmas.List.Folds.{list_any-append}
use Rattle.sedck_report.specs.Levels.{is_warning, has_warning, warns_of}
use Rattle.sedck_report.specs.declared.code.Code.{Code}
use Rattle.sedck_report.specs.declared.code.Code.TheVariants as code
use Rattle.sedck_report.specs.declared.finding.Finding.{Finding}
use Rattle.sedck_errors.specs.Denials.{denies, no_warnings}

either_none : (warns kind more rest : Bool) → (warns || more) ≡ false → (more ≡ false → rest ≡ false) → ((warns && kind) || rest) ≡ false
either_none true kind more rest is then = absurd (cc)
either_none false kind more rest is then = then is

-- where there is no warning, there is none of a kind
no_kind : (kind : Code → Bool) (findings : List Finding) → has_warning findings ≡ false → warns_of kind findings ≡ false
no_kind kind [] none = refl
no_kind kind (f ∷ more) none = either_none (is_warning f.level) (kind f.code) (has_warning more) (warns_of kind more) none (no_kind kind more)

-- after findings none of which is a warning, the others are of a kind as they were
pub kind_behind : (kind : Code → Bool) (errors findings all : List Finding) → all ≡ errors ++ findings → has_warning errors ≡ false
    → warns_of kind all ≡ warns_of kind findings
kind_behind kind errors findings all is none =
    ap (warns_of kind) is ∙ list_any-append (λ (f : Finding). is_warning f.level && kind f.code) errors findings
    ∙ ap (λ b. b || warns_of kind findings) (no_kind kind errors none)

none_denied : (c : Code) → denies no_warnings c ≡ false
none_denied code.OptionsInFirstLine = refl
none_denied code.BraceBehindLabel = refl
none_denied code.LooksExtended = refl
none_denied code.OneLineText = refl
none_denied code.SilencingComment = refl
none_denied code.Locale = refl
none_denied code.BackslashInList = refl
none_denied code.ClassWithoutList = refl
none_denied code.RangeInY = refl
none_denied code.StreamName = refl
none_denied code.DeviceName = refl
none_denied code.AbsoluteName = refl
none_denied code.UpwardName = refl
none_denied code.UnprintableName = refl
none_denied code.BlankAtEnd = refl
none_denied code.CommandInName = refl
none_denied code.HiddenName = refl
none_denied code.MakefileName = refl
none_denied code.OptionName = refl
none_denied code.ShellByteInName = refl
none_denied code.ReadAndWritten = refl
none_denied code.SameFile = refl
none_denied code.NamesItself = refl
none_denied code.WritesItsInput = refl
none_denied code.UnknownCode = refl
none_denied code.InPlace = refl
none_denied _ = refl

none_more : (warns kind rest : Bool) → kind ≡ false → rest ≡ false → ((warns && kind) || rest) ≡ false
none_more true kind rest is none = rw (is, none) refl
none_more false kind rest is none = none

-- where none is denied, no finding is a warning that is
pub nothing_denied : (findings : List Finding) → warns_of (denies no_warnings) findings ≡ false
nothing_denied [] = refl
nothing_denied (f ∷ more) =
    none_more (is_warning f.level) (denies no_warnings f.code) (warns_of (denies no_warnings) more) (none_denied f.code) (nothing_denied more)
