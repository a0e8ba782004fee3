-- What is said of a call, by what is said of its script.
use Rattle.sedck_explanation.proofs.Common.{◌≡◌, ℕ, true, false, List, None, Result, Ok, Err, IfOk, refl, sym, subst, denies, warns_of_denied, Denied, IsExplanation, Explanation}
use Rattle.std.proofs.Common.{MatchBool}
use Rattle.sedck_call.specs.declared.call.Call.{Call}
use Rattle.sedck_explanation.specs.Called.{is_in_place, is_denied_call, IsDenied, IsCalled}
use Rattle.sedck_report.specs.declared.code.Code.TheVariants.{InPlace}

-- where that is denied, an operand that is overwritten is warned of
abbrev IsWarned : Denied → Call → Explanation → Type 0
IsWarned denied call judged = denies denied.warnings InPlace ≡ true → is_in_place call ≡ true → warns_of_denied denied judged.findings.items ≡ true

pub called_denied : {E : Type 0} (text : List ℕ) (denied : Denied) (call : Call) (judged : Explanation) (r : Result Explanation E)
    → IsExplanation text None denied judged → IsWarned denied call judged → is_denied_call denied call judged.status ≡ true
    → IfOk r (IsDenied judged.text.now judged) → IfOk r (IsCalled text denied call)
called_denied text denied call judged (Ok e) is warned denial said = record {
  judged = judged;
  is_explanation = is;
  warned = warned;
  said = subst (λ b. MatchBool b (IsDenied text judged e) (e ≡ judged)) (sym denial) (subst (λ t. IsDenied t judged e) is.is_text said);
}
called_denied text denied call judged (Err e) is warned denial said = tt

pub called_plain : (text : List ℕ) (denied : Denied) (call : Call) (judged : Explanation)
    → IsExplanation text None denied judged → IsWarned denied call judged → is_denied_call denied call judged.status ≡ false
    → IsCalled text denied call judged
called_plain text denied call judged is warned plain = record {
  judged = judged;
  is_explanation = is;
  warned = warned;
  said = subst (λ b. MatchBool b (IsDenied text judged judged) (judged ≡ judged)) (sym plain) refl;
}
