-- Findings that are sorted out by their levels.
use Rattle.sedck_explanation.proofs.Common.{◌≡◌, ◌∙◌, ◌||◌, ◌&&◌, ℕ, Bool, true, false, List, [], ◌∷◌, ◌++◌, Option, map, refl, sym, ap, subst, false≢true, All-head, warns_of, has_locale, is_warning, is_error, AreOf, AreInOrder, head_of, Code, Finding, Position, Error, denies, DeniedWarnings, errors_in, AreReported}
use Rattle.std.proofs.lemmas.List.{map-append}
use Rattle.std.proofs.lemmas.List.Folds.{list_any-append}
use Rattle.std.proofs.lemmas.List.Elements.{filter-append, All-append, All-cons, All-nil, All-tail}
use Rattle.std.specs.List.{All}
use Rattle.sedck_advice.proofs.Added.{and_none}
use Rattle.sedck_report.specs.Levels.{is_locale}
use Rattle.sedck_report.specs.Reported.{HasRange}
use Rattle.sedck_report.specs.declared.finding.Level.{Level}
use Rattle.sedck_report.specs.declared.finding.Level.TheVariants.{Warning, Note}

-- what was found so far, by its levels and without what is ignored
pub record IsSortedOut (text : List ℕ) (denied : DeniedWarnings) (found errors warnings notes : List Finding) : Type 0 where
  pub heads : map head_of errors ≡ map head_of (errors_in found)
  pub warned : warns_of (denies denied) warnings ≡ warns_of (denies denied) found
  pub locale : has_locale warnings ≡ has_locale found
  pub are_errors : AreOf Error errors
  pub are_warnings : AreOf Warning warnings
  pub are_notes : AreOf Note notes
  pub error_ends : All (HasRange text) errors
  pub warning_ends : All (HasRange text) warnings
  pub note_ends : All (HasRange text) notes

-- a finding has this level
abbrev Of : Level → Finding → Type 0
Of level finding = finding.level ≡ level

-- ---- One finding more

level_of : (level : Level) (f : Finding) → f.level ≡ level → (found : List Finding) → AreOf level found → AreOf level (found ++ (f ∷ []))
level_of level f is found are = All-append (Of level) found (f ∷ []) are (All-cons (Of level) f [] is (All-nil (Of level)))

range_of : (text : List ℕ) (f : Finding) → HasRange text f → (found : List Finding) → All (HasRange text) found → All (HasRange text) (found ++ (f ∷ []))
range_of text f has found have =
    All-append (HasRange text) found (f ∷ []) have (All-cons (HasRange text) f [] has (All-nil (HasRange text)))

or_false : (b : Bool) → (b || false) ≡ b
or_false true = refl
or_false false = refl

-- whether there is a warning of a kind, with one finding more
warned_by : (kind : Code → Bool) (f : Finding) (found : List Finding)
    → warns_of kind (found ++ (f ∷ [])) ≡ (warns_of kind found || (is_warning f.level && kind f.code))
warned_by kind f found = list_any-append (λ (finding : Finding). is_warning finding.level && kind finding.code) found (f ∷ [])
    ∙ ap (λ b. warns_of kind found || b) (or_false (is_warning f.level && kind f.code))

not_warned : (kind : Code → Bool) (f : Finding) → (is_warning f.level && kind f.code) ≡ false → (found : List Finding)
    → warns_of kind (found ++ (f ∷ [])) ≡ warns_of kind found
not_warned kind f none found = warned_by kind f found ∙ ap (λ b. warns_of kind found || b) none ∙ or_false (warns_of kind found)

-- the same of one that takes the place of another
warned_both : (kind : Code → Bool) (f g : Finding) (found warnings : List Finding) → g.level ≡ f.level → head_of g ≡ head_of f
    → warns_of kind warnings ≡ warns_of kind found → warns_of kind (warnings ++ (g ∷ [])) ≡ warns_of kind (found ++ (f ∷ []))
warned_both kind f g found warnings same head sorted =
    warned_by kind g warnings ∙ ap (λ b. b || (is_warning g.level && kind g.code)) sorted
    ∙ ap (λ l. warns_of kind found || (is_warning l && kind g.code)) same
    ∙ ap (λ (h : Code × Option Position). warns_of kind found || (is_warning f.level && kind h.0)) head ∙ sym (warned_by kind f found)

none_and : (a b : Bool) → a ≡ false → (a && b) ≡ false
none_and a b is = rw is refl

errors_one : (f : Finding) → f.level ≡ Error → errors_in (f ∷ []) ≡ f ∷ []
errors_one f is = rw is refl

errors_none : (f : Finding) → is_error f.level ≡ false → errors_in (f ∷ []) ≡ []
errors_none f is = rw is refl

append_none : (found : List Finding) → found ++ [] ≡ found
append_none [] = refl
append_none (f ∷ more) = ap (λ t. f ∷ t) (append_none more)

-- the errors, with one finding more
pub no_error_more : (f : Finding) → is_error f.level ≡ false → (found : List Finding) → errors_in (found ++ (f ∷ [])) ≡ errors_in found
no_error_more f none found =
    filter-append (λ finding. is_error finding.level) found (f ∷ []) ∙ ap (λ t. errors_in found ++ t) (errors_none f none) ∙ append_none (errors_in found)

error_more : (f : Finding) → f.level ≡ Error → (found : List Finding) → errors_in (found ++ (f ∷ [])) ≡ errors_in found ++ (f ∷ [])
error_more f is found = filter-append (λ finding. is_error finding.level) found (f ∷ []) ∙ ap (λ t. errors_in found ++ t) (errors_one f is)

pub more_error : (text : List ℕ) (denied : DeniedWarnings) (found errors pushed warnings notes : List Finding) (f g : Finding)
    → g.level ≡ f.level → head_of g ≡ head_of f → HasRange text g → g.level ≡ Error → pushed ≡ errors ++ (g ∷ [])
    → IsSortedOut text denied found errors warnings notes → IsSortedOut text denied (found ++ (f ∷ [])) pushed warnings notes
more_error text denied found errors pushed warnings notes f g same head has is pushes sorted =
    let was : f.level ≡ Error = sym same ∙ is in
    let heads : map head_of (errors ++ (g ∷ [])) ≡ map head_of (errors_in (found ++ (f ∷ []))) =
    map-append head_of errors (g ∷ []) ∙ ap (λ t. map head_of errors ++ (t ∷ [])) head ∙ ap (λ t. t ++ (head_of f ∷ [])) sorted.heads
    ∙ sym (map-append head_of (errors_in found) (f ∷ [])) ∙ ap (map head_of) (sym (error_more f was found)) in
    record {
      heads = subst (λ (t : List Finding). map head_of t ≡ map head_of (errors_in (found ++ (f ∷ [])))) (sym pushes) heads;
      warned = sorted.warned ∙ sym (not_warned (denies denied) f (none_and (is_warning f.level) (denies denied f.code) (ap is_warning was)) found);
      locale = sorted.locale ∙ sym (not_warned is_locale f (none_and (is_warning f.level) (is_locale f.code) (ap is_warning was)) found);
      are_errors = subst (AreOf Error) (sym pushes) (level_of Error g is errors sorted.are_errors);
      are_warnings = sorted.are_warnings;
      are_notes = sorted.are_notes;
      error_ends = subst (All (HasRange text)) (sym pushes) (range_of text g has errors sorted.error_ends);
      warning_ends = sorted.warning_ends;
      note_ends = sorted.note_ends;
    }

pub more_warning : (text : List ℕ) (denied : DeniedWarnings) (found errors warnings pushed notes : List Finding) (f g : Finding)
    → g.level ≡ f.level → head_of g ≡ head_of f → HasRange text g → g.level ≡ Warning → pushed ≡ warnings ++ (g ∷ [])
    → IsSortedOut text denied found errors warnings notes → IsSortedOut text denied (found ++ (f ∷ [])) errors pushed notes
more_warning text denied found errors warnings pushed notes f g same head has is pushes sorted =
    let was : f.level ≡ Warning = sym same ∙ is in
    record {
      heads = sorted.heads ∙ ap (map head_of) (sym (no_error_more f (ap is_error was) found));
      warned = ap (warns_of (denies denied)) pushes ∙ warned_both (denies denied) f g found warnings same head sorted.warned;
      locale = ap has_locale pushes ∙ warned_both is_locale f g found warnings same head sorted.locale;
      are_errors = sorted.are_errors;
      are_warnings = subst (AreOf Warning) (sym pushes) (level_of Warning g is warnings sorted.are_warnings);
      are_notes = sorted.are_notes;
      error_ends = sorted.error_ends;
      warning_ends = subst (All (HasRange text)) (sym pushes) (range_of text g has warnings sorted.warning_ends);
      note_ends = sorted.note_ends;
    }

pub more_note : (text : List ℕ) (denied : DeniedWarnings) (found errors warnings notes pushed : List Finding) (f g : Finding)
    → g.level ≡ f.level → HasRange text g → g.level ≡ Note → pushed ≡ notes ++ (g ∷ [])
    → IsSortedOut text denied found errors warnings notes → IsSortedOut text denied (found ++ (f ∷ [])) errors warnings pushed
more_note text denied found errors warnings notes pushed f g same has is pushes sorted =
    let was : f.level ≡ Note = sym same ∙ is in
    record {
      heads = sorted.heads ∙ ap (map head_of) (sym (no_error_more f (ap is_error was) found));
      warned = sorted.warned ∙ sym (not_warned (denies denied) f (none_and (is_warning f.level) (denies denied f.code) (ap is_warning was)) found);
      locale = sorted.locale ∙ sym (not_warned is_locale f (none_and (is_warning f.level) (is_locale f.code) (ap is_warning was)) found);
      are_errors = sorted.are_errors;
      are_warnings = sorted.are_warnings;
      are_notes = subst (AreOf Note) (sym pushes) (level_of Note g is notes sorted.are_notes);
      error_ends = sorted.error_ends;
      warning_ends = sorted.warning_ends;
      note_ends = subst (All (HasRange text)) (sym pushes) (range_of text g has notes sorted.note_ends);
    }

not_so : (a is : Bool) → is ≡ true → (a ≡ true → is ≡ false) → a ≡ false
not_so true is holds denies = absurd (false≢true (sym (denies refl) ∙ holds))
not_so false is holds denies = refl

-- one that is left out
pub more_ignored : (text : List ℕ) (denied : DeniedWarnings) (found errors warnings notes : List Finding) (f : Finding) (is : Bool) → is ≡ true
    → (is_error f.level ≡ true → is ≡ false) → (is_locale f.code ≡ true → is ≡ false) → (denies denied f.code ≡ true → is ≡ false)
    → IsSortedOut text denied found errors warnings notes → IsSortedOut text denied (found ++ (f ∷ [])) errors warnings notes
more_ignored text denied found errors warnings notes f is holds error locale denial sorted = record {
  heads = sorted.heads ∙ ap (map head_of) (sym (no_error_more f (not_so (is_error f.level) is holds error) found));
  warned = sorted.warned
      ∙ sym (not_warned (denies denied) f (and_none (is_warning f.level) (denies denied f.code) (not_so (denies denied f.code) is holds denial)) found);
  locale = sorted.locale ∙ sym (not_warned is_locale f (and_none (is_warning f.level) (is_locale f.code) (not_so (is_locale f.code) is holds locale)) found);
  are_errors = sorted.are_errors;
  are_warnings = sorted.are_warnings;
  are_notes = sorted.are_notes;
  error_ends = sorted.error_ends;
  warning_ends = sorted.warning_ends;
  note_ends = sorted.note_ends;
}

-- ---- All of them

-- one finding that is no warning
pub locale_alone : (f : Finding) → is_warning f.level ≡ false → has_locale (f ∷ []) ≡ false
locale_alone f none = rw none refl

-- none is added to none
pub no_locale_append : (old new more : List Finding) → new ≡ old ++ more → has_locale old ≡ false → has_locale more ≡ false → has_locale new ≡ false
no_locale_append old new more is one two =
    ap has_locale is ∙ list_any-append (λ finding. is_warning finding.level && is_locale finding.code) old more
    ∙ ap (λ b. b || has_locale more) one ∙ two

none_warns : (kind : Code → Bool) (level : Level) → is_warning level ≡ false → (findings : List Finding) → AreOf level findings → warns_of kind findings ≡ false
none_warns kind level none [] are = refl
none_warns kind level none (f ∷ more) are =
    ap (λ l. (is_warning l && kind f.code) || warns_of kind more) (All-head (Of level) f more are)
    ∙ ap (λ b. b || warns_of kind more) (none_and (is_warning level) (kind f.code) none) ∙ none_warns kind level none more (All-tail (Of level) f more are)

-- the warnings of a kind among findings in order are those of the second part
warns_of_parts : (kind : Code → Bool) (errors warnings notes : List Finding) → AreOf Error errors → AreOf Note notes
    → warns_of kind (errors ++ (warnings ++ notes)) ≡ warns_of kind warnings
warns_of_parts kind errors warnings notes are_errors are_notes =
    let w = λ (f : Finding). is_warning f.level && kind f.code in
    list_any-append w errors (warnings ++ notes)
    ∙ ap (λ b. b || warns_of kind (warnings ++ notes)) (none_warns kind Error refl errors are_errors)
    ∙ list_any-append w warnings notes
    ∙ ap (λ b. warns_of kind warnings || b) (none_warns kind Note refl notes are_notes)
    ∙ or_false (warns_of kind warnings)

no_errors_in : (level : Level) → is_error level ≡ false → (findings : List Finding) → AreOf level findings → errors_in findings ≡ []
no_errors_in level none [] are = refl
no_errors_in level none (f ∷ more) are =
    let other : is_error f.level ≡ false = ap is_error (All-head (Of level) f more are) ∙ none in
    rw other (no_errors_in level none more (All-tail (Of level) f more are))

all_errors_in : (findings : List Finding) → AreOf Error findings → errors_in findings ≡ findings
all_errors_in [] are = refl
all_errors_in (f ∷ more) are =
    let is : is_error f.level ≡ true = ap is_error (All-head (Of Error) f more are) in
    rw is (ap (λ t. f ∷ t) (all_errors_in more (All-tail (Of Error) f more are)))

errors_of_parts : (errors warnings notes : List Finding) → AreOf Error errors → AreOf Warning warnings → AreOf Note notes
    → errors_in (errors ++ (warnings ++ notes)) ≡ errors
errors_of_parts errors warnings notes are_errors are_warnings are_notes =
    let p = λ (f : Finding). is_error f.level in
    filter-append p errors (warnings ++ notes)
    ∙ ap (λ t. t ++ errors_in (warnings ++ notes)) (all_errors_in errors are_errors)
    ∙ ap (λ t. errors ++ t)
    (filter-append p warnings notes ∙ ap (λ t. t ++ errors_in notes) (no_errors_in Warning refl warnings are_warnings) ∙ no_errors_in Note refl notes are_notes)
    ∙ append_none errors

-- the errors among findings in order are the first part
pub errors_of_ordered : (all : List Finding) (order : AreInOrder all) → errors_in all ≡ order.errors
errors_of_ordered all order =
    ap errors_in order.parts ∙ errors_of_parts order.errors order.warnings order.notes order.are_errors order.are_warnings order.are_notes

pub sorted_reports : (text : List ℕ) (denied : DeniedWarnings) (found errors warnings notes all : List Finding) → all ≡ errors ++ (warnings ++ notes)
    → IsSortedOut text denied found errors warnings notes → AreReported text denied found all
sorted_reports text denied found errors warnings notes all is sorted =
    record {
      errors = ap (λ t. map head_of (errors_in t)) is ∙ ap (map head_of) (errors_of_parts errors warnings notes sorted.are_errors sorted.are_warnings sorted.are_notes) ∙ sorted.heads;
      warnings = ap (warns_of (denies denied)) is ∙ warns_of_parts (denies denied) errors warnings notes sorted.are_errors sorted.are_notes ∙ sorted.warned;
      locale = ap has_locale is ∙ warns_of_parts is_locale errors warnings notes sorted.are_errors sorted.are_notes ∙ sorted.locale;
      order = record {
        errors = errors;
        warnings = warnings;
        notes = notes;
        parts = is;
        are_errors = sorted.are_errors;
        are_warnings = sorted.are_warnings;
        are_notes = sorted.are_notes;
      };
      ends = subst (All (HasRange text)) (sym is)
          (All-append (HasRange text) errors (warnings ++ notes) sorted.error_ends (All-append (HasRange text) warnings notes sorted.warning_ends sorted.note_ends));
    }
