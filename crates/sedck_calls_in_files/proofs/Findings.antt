-- Findings whose levels and codes stay, and warnings that are put among others.
use Rattle.sedck_calls_in_files.proofs.Common.{◌≡◌, ◌∙◌, ℕ, Bool, true, false, List, [], ◌∷◌, ◌++◌, All, refl, sym, ap, KeepsFindings, has_finding, IsFindingIn, IsWarningIn}
use Rattle.std.proofs.Common.{◌||◌, ◌&&◌, append-nil}
use Rattle.std.proofs.lemmas.List.Folds.{list_any-append, list_any_none}
use Rattle.std.proofs.lemmas.List.Elements.{All-weaker}
use Rattle.std.specs.List.{list_any}
use Rattle.sedck_report.specs.Levels.{is_error, is_warning, is_locale}
use Rattle.sedck_report.specs.declared.code.Code.{Code}
use Rattle.sedck_report.specs.declared.finding.Finding.{Finding}
use Rattle.sedck_report.specs.declared.finding.Level.{Level}
use Rattle.sedck_calls_in_files.specs.Private.Kinds.{kinds_of}

-- ---- The same levels and codes

by_kinds : (is : Level → Code → Bool) (findings : List Finding) → has_finding is findings ≡ list_any (λ kind. is kind.0 kind.1) (kinds_of findings)
by_kinds is [] = refl
by_kinds is (finding ∷ findings) = ap (λ rest. is finding.level finding.code || rest) (by_kinds is findings)

same_has : (is : Level → Code → Bool) (before after : List Finding) → kinds_of after ≡ kinds_of before → has_finding is after ≡ has_finding is before
same_has is before after same =
    by_kinds is after ∙ ap (list_any (λ kind. is kind.0 kind.1)) same ∙ sym (by_kinds is before)

pub keeps_kinds : (before after : List Finding) → kinds_of after ≡ kinds_of before → KeepsFindings before after
keeps_kinds before after same = record {
  kept = λ is has. same_has is before after same ∙ has;
  errors = same_has (λ level code. is_error level) before after same;
  locale = same_has (λ level code. is_warning level && is_locale code) before after same;
}

-- ---- Warnings that are put among others

or_between : (a w b : Bool) → (a || b) ≡ true → ((a || w) || b) ≡ true
or_between true w b is = refl
or_between false true b is = refl
or_between false false b is = is

or_without : (a w b : Bool) → w ≡ false → ((a || w) || b) ≡ (a || b)
or_without true w b is = refl
or_without false w b is = rw is refl

any_between : (p : Finding → Bool) (front more back : List Finding) → list_any p ((front ++ more) ++ back) ≡ ((list_any p front || list_any p more) || list_any p back)
any_between p front more back =
    list_any-append p (front ++ more) back ∙ ap (λ b. b || list_any p back) (list_any-append p front more)

-- a warning is no error
warning_is_no_error : (file : List ℕ) (finding : Finding) → IsWarningIn file finding → is_error finding.level ≡ false
warning_is_no_error file finding is = ap is_error is.level

other_is_no_locale : (a b : Bool) → b ≡ false → (a && b) ≡ false
other_is_no_locale true b is = is
other_is_no_locale false b is = refl

pub keeps_between : (file : List ℕ) (before front more back after : List Finding) → before ≡ front ++ back → after ≡ (front ++ more) ++ back
    → All (IsWarningIn file) more → KeepsFindings before after
keeps_between file before front more back after is_before is_after warnings =
    let none_of : (p : Finding → Bool) → ((f : Finding) → IsWarningIn file f → p f ≡ false) → list_any p after ≡ list_any p before =
    λ p none. ap (list_any p) is_after ∙ any_between p front more back
    ∙ or_without (list_any p front) (list_any p more) (list_any p back) (list_any_none p more (All-weaker (IsWarningIn file) (λ f. p f ≡ false) none more warnings))
    ∙ sym (ap (list_any p) is_before ∙ list_any-append p front back) in
    record {
      kept = λ is has.
          let p : Finding → Bool = λ f. is f.level f.code in
          ap (list_any p) is_after ∙ any_between p front more back
          ∙ or_between (list_any p front) (list_any p more) (list_any p back) (sym (ap (list_any p) is_before ∙ list_any-append p front back) ∙ has);
      errors = none_of (λ f. is_error f.level) (warning_is_no_error file);
      locale = none_of (λ f. is_warning f.level && is_locale f.code) (λ f is. other_is_no_locale (is_warning f.level) (is_locale f.code) is.code);
    }

-- behind all of them
pub keeps_behind : (file : List ℕ) (before more after : List Finding) → after ≡ before ++ more → All (IsWarningIn file) more → KeepsFindings before after
keeps_behind file before more after is warnings =
    keeps_between file before before more [] after (sym (append-nil before)) (is ∙ sym (append-nil (before ++ more))) warnings

-- they have positions
pub placed_warnings : (file : List ℕ) (warnings : List Finding) → All (IsWarningIn file) warnings → All (IsFindingIn file) warnings
placed_warnings file warnings are = All-weaker (IsWarningIn file) (IsFindingIn file) (λ finding is. is.placed) warnings are
