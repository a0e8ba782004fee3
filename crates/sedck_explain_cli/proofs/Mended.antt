-- What is said under a condition, and its status.
use Rattle.sedck_explain_cli.proofs.Common.{◌≡◌, ◌≢◌, ◌∙◌, ℕ, Bool, true, false, List, Option, None, Result, Ok, Err, IfOk, IfSome, inl, inr, refl, sym, ap, subst, Keeps, false≢true, Call, Known, RunFault, Denied, IsCalled, IsExplanation, IsOfAnswer, Explanation, Status, Output, Writes, IsDelivered, HasCallStatus, IsExplained, IsOfMendedCall, IsUnder, IsExplainedUnder, IsJudgedCall, IsIn, IsAnsweredCall}
use Rattle.std.specs.Prelude.{◌⊎◌}
use Rattle.sedck_answer.specs.declared.status.Status.TheVariants as exit
use Rattle.sedck_plain.specs.Mended.{IsMended}
use Rattle.sedck_explain_cli.specs.Mended.{under_condition, IsOfMended, IsOfAnswerUnder}
use Rattle.sedck_explain_cli.specs.Private.Said.{IsDeliveredUnder}
use Rattle.sedck_explain_cli.specs.Spelled.{CopiesMended}
use Rattle.sedck_explain_cli.proofs.CallStatuses.{under_text}
use Rattle.sedck_explain_cli.proofs.Spelled.{delivered_few, copied_yes, explained}

-- ---- The status

never_yes : (s : Status) → under_condition s ≢ exit.Accepted
never_yes exit.Accepted = λ e. cc e
never_yes exit.Rejected = λ e. cc e
never_yes exit.Refused = λ e. cc e
never_yes exit.Misused = λ e. cc e
never_yes exit.Failed = λ e. cc e
never_yes exit.Unknown = λ e. cc e

yes_of : (s : Status) → IsOfAnswer s → under_condition s ≡ exit.Unknown → s ≡ exit.Accepted
yes_of exit.Accepted few unknown = refl
yes_of exit.Rejected few unknown = let clash : exit.Rejected ≡ exit.Unknown = unknown in cc clash
yes_of exit.Refused few unknown = let clash : exit.Refused ≡ exit.Unknown = unknown in cc clash
yes_of exit.Misused few unknown = let clash : exit.Misused ≡ exit.Unknown = unknown in cc clash
yes_of exit.Failed few unknown = let clash : exit.Failed ≡ exit.Unknown = unknown in cc clash
yes_of exit.Unknown few unknown = absurd (few.2 refl)

few_unknown : (mends : Bool) → mends ≡ true → IsOfAnswerUnder mends exit.Unknown
few_unknown mends asked = ((λ e. cc e), (λ e. cc e), (λ none. absurd (false≢true (sym none ∙ asked))))

few_refused : (mends : Bool) → IsOfAnswerUnder mends exit.Refused
few_refused mends = ((λ e. cc e), (λ e. cc e), (λ none e. cc e))

few_under : (mends : Bool) (s : Status) → mends ≡ true → IsOfAnswer s → IsOfAnswerUnder mends (under_condition s)
few_under mends exit.Accepted asked few = few_unknown mends asked
few_under mends exit.Rejected asked few = (few.0, few.1, (λ none. few.2))
few_under mends exit.Refused asked few = (few.0, few.1, (λ none. few.2))
few_under mends exit.Misused asked few = absurd (few.0 refl)
few_under mends exit.Failed asked few = absurd (few.1 refl)
few_under mends exit.Unknown asked few = absurd (few.2 refl)

-- which statuses what is delivered under a condition has
abbrev IsStatusUnder : Bool → Status → Status → Type 0
IsStatusUnder plain s status = (status ≡ under_condition s) ⊎ ((plain ≡ true) × (s ≡ exit.Accepted) × (status ≡ exit.Refused))

few_of : (mends plain : Bool) (s status : Status) → mends ≡ true → IsOfAnswer s → IsStatusUnder plain s status → IsOfAnswerUnder mends status
few_of mends plain s status asked few (inl is) = subst (λ s. IsOfAnswerUnder mends s) (sym is) (few_under mends s asked few)
few_of mends plain s status asked few (inr is) = subst (λ s. IsOfAnswerUnder mends s) (sym is.2) (few_refused mends)

no_yes : (plain : Bool) (s status : Status) → IsStatusUnder plain s status → status ≢ exit.Accepted
no_yes plain s status (inl is) accepted = never_yes s (sym is ∙ accepted)
no_yes plain s status (inr is) accepted = let clash : exit.Refused ≡ exit.Accepted = sym is.2 ∙ accepted in cc clash

yes_under : (plain : Bool) (s status : Status) → IsOfAnswer s → IsStatusUnder plain s status → status ≡ exit.Unknown → s ≡ exit.Accepted
yes_under plain s status few (inl is) unknown = yes_of s few (sym is ∙ unknown)
yes_under plain s status few (inr is) unknown = is.1

has_under : (mends plain : Bool) (OfMended : Status → Type 0) (judged s status : Status) → mends ≡ true → judged ≡ exit.Refused → OfMended (under_condition s)
    → IsStatusUnder plain s status → IsUnder mends OfMended judged status
has_under mends plain OfMended judged s status asked refused of_mended (inl is) = inr (asked, refused, subst OfMended (sym is) of_mended)
has_under mends plain OfMended judged s status asked refused of_mended (inr is) = inl (is.2 ∙ sym refused)

in_of : (plain : Bool) (Has : Status → Type 0) (status : Status) → Has status → IsIn plain Has status
in_of true Has status has = (status, has, inl refl)
in_of false Has status has = has

-- ---- What is delivered

-- a status that is none of a yes stays under a condition
pub stays_under : (s : Status) → s ≢ exit.Accepted → under_condition s ≡ s
stays_under exit.Accepted other = absurd (other refl)
stays_under exit.Rejected other = refl
stays_under exit.Refused other = refl
stays_under exit.Misused other = refl
stays_under exit.Failed other = refl
stays_under exit.Unknown other = refl

-- ---- What is written

-- what is reported of the text that was given keeps what is said of the other one
pub record IsReported (other shown : Explanation) : Type 0 where
  pub status : shown.status ≡ other.status
  pub script : shown.script ≡ other.script
  pub source : shown.source.now ≡ other.source.now

silent_of : (plain : Bool) (e : Explanation) (out err : Output) (status : Status) → IsDeliveredUnder plain e out err status
    → (plain ≡ false) ⊎ (status ≡ exit.Accepted) → Keeps err.before err.after
silent_of plain e out err status d (inl other) = d.silent other
silent_of plain e out err status d (inr accepted) = absurd (no_yes plain e.status status d.is_status accepted)

copied_mended : (text mended : List ℕ) (denied : Denied) (other shown : Explanation) (out : Output) → IsMended text mended → IsExplanation mended None denied other
    → other.status ≡ exit.Accepted → IsReported other shown → IfSome shown.script (Writes out shown.source.now) → CopiesMended denied text out
copied_mended text mended denied other shown out is_mended is accepted same writes = record {
  mended = mended;
  is_mended = is_mended;
  explanation = other;
  is_explanation = is;
  is_yes = accepted;
  copies = copied_yes mended None denied other out is accepted (subst (λ script. IfSome script (Writes out other.source.now)) same.script
      (subst (λ source. IfSome shown.script (Writes out source)) same.source writes));
}

-- of a script
pub explained_under : (plain : Bool) (text mended : List ℕ) (given : Option (List ℕ)) (denied : Denied) (e other shown : Explanation) (out err : Output)
    (status : Status) → IsMended text mended → IsExplanation text given denied e → e.status ≡ exit.Refused → IsExplanation mended None denied other
    → IsOfAnswer other.status
    → IsReported other shown → IsDeliveredUnder plain shown out err status → IsExplainedUnder true plain text given denied out err status
explained_under plain text mended given denied e other shown out err status is_mended is refused is_other few same d =
    let few_shown = subst IsOfAnswer (sym same.status) few in
    let accepted_by : under_condition shown.status ≡ exit.Unknown → other.status ≡ exit.Accepted = λ unknown. sym same.status ∙ yes_of shown.status few_shown unknown in
    let of_mended : IsOfMended denied text (under_condition shown.status) = record {
      mended = mended;
      is_mended = is_mended;
      explanation = other;
      is_explanation = is_other;
      is_status = ap under_condition same.status;
      is_yes = accepted_by;
    } in
    record {
      few = few_of true plain shown.status status refl few_shown d.is_status;
      explanation = e;
      is_explanation = is;
      is_status = in_of plain (IsUnder true (IsOfMended denied text) e.status) status
          (has_under true plain (IsOfMended denied text) e.status shown.status status refl refused of_mended d.is_status);
      writes = λ plainly. record {
        spelled = λ accepted. absurd (no_yes plain shown.status status d.is_status accepted);
        mended = λ unknown. (
          refl,
          copied_mended text mended denied other shown out is_mended is_other
              (sym same.status ∙ yes_under plain shown.status status few_shown d.is_status unknown) same (d.writes plainly unknown),
        );
        kept = λ _ known. d.kept plainly known;
      };
      silent = silent_of plain shown out err status d;
    }

-- and of a call
pub answered_under : (mends plain : Bool) (k : Known) (denied : Denied) (words : List (List ℕ)) (call : Call) (text mended : List ℕ) (e other shown : Explanation)
    (out err : Output) (status : Status) → mends ≡ true → IsMended text mended → IsJudgedCall k denied words call text e → e.status ≡ exit.Refused → IsCalled mended denied call other
    → IsOfAnswer other.status → (other.status ≡ exit.Accepted → IsExplanation mended None denied other) → IsReported other shown
    → IsDeliveredUnder plain shown out err status → IsAnsweredCall mends plain k denied words out err status
answered_under mends plain k denied words call text mended e other shown out err status asked is_mended judged refused called few explained same d =
    let few_shown = subst IsOfAnswer (sym same.status) few in
    let accepted_by : under_condition shown.status ≡ exit.Unknown → (other.status ≡ exit.Accepted) × IsExplanation mended None denied other =
    λ unknown. let is = sym same.status ∙ yes_of shown.status few_shown unknown in (is, explained is) in
    let of_mended : IsOfMendedCall denied call text (under_condition shown.status) = record {
      mended = mended;
      is_mended = is_mended;
      explanation = other;
      is_called = called;
      is_status = ap under_condition same.status;
      is_yes = accepted_by;
    } in
    record {
      few = few_of mends plain shown.status status asked few_shown d.is_status;
      has_status = in_of plain (HasCallStatus mends k denied words) status (under_text mends k denied words call text e status judged
          (has_under mends plain (IsOfMendedCall denied call text) e.status shown.status status asked refused of_mended d.is_status));
      spelled = λ plainly. record {
        spelled = λ accepted. absurd (no_yes plain shown.status status d.is_status accepted);
        mended = λ unknown. let is = sym same.status ∙ yes_under plain shown.status status few_shown d.is_status unknown in (
          asked,
          record {
            call = call;
            is_call = judged.is_call;
            parts = judged.parts;
            are_parts = judged.are_parts;
            copies = subst (λ t. CopiesMended denied t out) judged.is_text
                (copied_mended text mended denied other shown out is_mended (explained is) is same (d.writes plainly unknown));
          },
        );
        kept = λ _ known. d.kept plainly known;
      };
      silent = silent_of plain shown out err status d;
      yes = λ accepted. absurd (no_yes plain shown.status status d.is_status accepted);
    }

-- ---- Without mends

-- what is explained as it is holds in either case
pub explained_same : (mends plain : Bool) (known : Explanation → Option (List ℕ)) (text : List ℕ) (given : Option (List ℕ)) (denied : Denied) (out err : Output)
    (status : Status) → IsOfAnswer status → IsExplained plain known text given denied out err status
    → IsExplainedUnder mends plain text given denied out err status
explained_same mends true known text given denied out err status few s = record {
  few = (few.0, few.1, (λ none. few.2));
  explanation = s.explanation;
  is_explanation = s.is_explanation;
  is_status = (s.explanation.status, inl refl, s.is_status);
  writes = λ plainly. record {
    spelled = (s.writes plainly).spelled;
    mended = λ unknown. absurd (few.2 unknown);
    kept = λ other _. (s.writes plainly).kept other;
  };
  silent = s.silent;
}
explained_same mends false known text given denied out err status few s = record {
  few = (few.0, few.1, (λ none. few.2));
  explanation = s.explanation;
  is_explanation = s.is_explanation;
  is_status = inl s.is_status;
  writes = λ plainly. absurd (false≢true plainly);
  silent = s.silent;
}

-- a script that is delivered as it is
pub delivered_same : (mends plain : Bool) (known : Option (List ℕ)) (text : List ℕ) (given : Option (List ℕ)) (denied : Denied) (e : Explanation)
    (out err : Output) (status : Status) → IsExplanation text given denied e → IsOfAnswer e.status → IsDelivered plain known e out err status
    → IsExplainedUnder mends plain text given denied out err status
delivered_same mends plain known text given denied e out err status is few d =
    explained_same mends plain (λ _. known) text given denied out err status (delivered_few plain known e out err status d few)
    (explained plain (λ _. known) text given denied e out err status is d)

-- and the same of what may fail
pub same_inputs : (mends plain : Bool) (known : Explanation → Option (List ℕ)) (text : List ℕ) (given : Option (List ℕ)) (denied : Denied) (out err : Output)
    (r : Result Status RunFault) → IfOk r IsOfAnswer → IfOk r (IsExplained plain known text given denied out err)
    → IfOk r (IsExplainedUnder mends plain text given denied out err)
same_inputs mends plain known text given denied out err (Ok status) few s = explained_same mends plain known text given denied out err status few s
same_inputs mends plain known text given denied out err (Err why) few s = tt
