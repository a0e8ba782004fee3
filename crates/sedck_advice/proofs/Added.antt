-- Findings that are added.
use Rattle.sedck_advice.proofs.Common.{◌≡◌, ◌∙◌, ◌||◌, ◌&&◌, Bool, true, false, List, [], ◌∷◌, ◌++◌, Option, refl, sym, ap, subst, list_any-append, is_error, is_warning, is_locale, has_locale, Finding, AddsNoError, AddsOthers}
use Rattle.std.proofs.Common.{Result, Ok, Err, OnOk}
use Rattle.sedck_report.specs.Levels.{has_error, warns_of, BeginsWithError}
use Rattle.sedck_report.specs.declared.code.Code.{Code}
use Rattle.sedck_report.specs.declared.places.Position.{Position}

begins-append : (position : Option Position) (old more : List Finding) → BeginsWithError position old → BeginsWithError position (old ++ more)
begins-append position [] more begins = absurd begins
begins-append position (f ∷ old) more begins = begins

pub or-false : (a b : Bool) → b ≡ false → (a || (b || false)) ≡ a
or-false true b is = refl
or-false false b is = rw is refl

or_none : (a : Bool) → (a || false) ≡ a
or_none true = refl
or_none false = refl

or-kept : (a b : Bool) → a ≡ true → (a || b) ≡ true
or-kept a b is = rw is refl

-- a warning stays where findings are added
warned-append : (old new more : List Finding) → new ≡ old ++ more → (kind : Code → Bool) → warns_of kind old ≡ true → warns_of kind new ≡ true
warned-append old new more is kind warned =
    ap (warns_of kind) is ∙ list_any-append (λ (f : Finding). is_warning f.level && kind f.code) old more
    ∙ or-kept (warns_of kind old) (warns_of kind more) warned

or-behind : (a b : Bool) → b ≡ true → (a || b) ≡ true
or-behind true b is = refl
or-behind false b is = is

-- a warning is there where it is added
pub warned_behind : (old new more : List Finding) → new ≡ old ++ more → (kind : Code → Bool) → warns_of kind more ≡ true → warns_of kind new ≡ true
warned_behind old new more is kind warned =
    ap (warns_of kind) is ∙ list_any-append (λ (f : Finding). is_warning f.level && kind f.code) old more
    ∙ or-behind (warns_of kind old) (warns_of kind more) warned

-- a finding that is no error
pub no_error_push : (old new : List Finding) (f : Finding) → new ≡ old ++ (f ∷ []) → is_error f.level ≡ false → AddsNoError old new
no_error_push old new f is none = record {
  errors = ap has_error is ∙ list_any-append (λ finding. is_error finding.level) old (f ∷ []) ∙ or-false (has_error old) (is_error f.level) none;
  warned = warned-append old new (f ∷ []) is;
  first = λ position begins. subst (BeginsWithError position) (sym is) (begins-append position old (f ∷ []) begins);
}

-- several findings, none of which is an error
pub no_error_append : (old new more : List Finding) → new ≡ old ++ more → has_error more ≡ false → AddsNoError old new
no_error_append old new more is none = record {
  errors = ap has_error is ∙ list_any-append (λ finding. is_error finding.level) old more ∙ ap (λ b. has_error old || b) none ∙ or_none (has_error old);
  warned = warned-append old new more is;
  first = λ position begins. subst (BeginsWithError position) (sym is) (begins-append position old more begins);
}

pub no_error_trans : (a b c : List Finding) → AddsNoError a b → AddsNoError b c → AddsNoError a c
no_error_trans a b c one two = record {
  errors = two.errors ∙ one.errors;
  warned = λ kind warned. two.warned kind (one.warned kind warned);
  first = λ position begins. two.first position (one.first position begins);
}

-- ---- The same of findings that aren't the warning `locale`

pub and_none : (a b : Bool) → b ≡ false → (a && b) ≡ false
and_none true b is = is
and_none false b is = refl

pub others_push : (old new : List Finding) (f : Finding) → new ≡ old ++ (f ∷ []) → is_error f.level ≡ false → is_locale f.code ≡ false → AddsOthers old new
others_push old new f is none other = record {
  adds = no_error_push old new f is none;
  locale = ap has_locale is ∙ list_any-append (λ finding. is_warning finding.level && is_locale finding.code) old (f ∷ [])
      ∙ or-false (has_locale old) (is_warning f.level && is_locale f.code) (and_none (is_warning f.level) (is_locale f.code) other);
}

pub others_trans : (a b c : List Finding) → AddsOthers a b → AddsOthers b c → AddsOthers a c
others_trans a b c one two = record {
  adds = no_error_trans a b c one.adds two.adds;
  locale = two.locale ∙ one.locale;
}

-- the same where a call ends well
pub ok_others : {T E : Type 0} (a b c : List Finding) (r : Result T E) → AddsOthers a b → OnOk r (AddsOthers b c) → OnOk r (AddsOthers a c)
ok_others a b c (Ok x) one two = others_trans a b c one two
ok_others a b c (Err e) one two = two
