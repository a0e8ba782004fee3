-- From what is said of a call to its exit status.
use Rattle.sedck_explain_cli.proofs.Common.{◌≡◌, ◌∙◌, ℕ, Bool, true, List, None, inl, refl, sym, subst, Call, has_foreign, IsCalled, IsExplanation, Known, Denied, IsOfAnswer, Explanation, Status, Accepted, Refused, HasCallStatus, IsOfMendedCall, IsUnder, IsSaid, IsJudgedCall}
use Rattle.sedck_call.specs.Calls.{IsCall}

-- what is refused is no yes
refused_said : (mends : Bool) (k : Known) (denied : Denied) (words : List (List ℕ)) (e : Explanation) → e.status ≡ Refused
    → HasCallStatus mends k denied words Refused → IsSaid mends k denied words e
refused_said mends k denied words e refused has = record {
  few = subst IsOfAnswer (sym refused) ((λ e. cc e), (λ e. cc e), (λ e. cc e));
  has_status = subst (HasCallStatus mends k denied words) (sym refused) has;
  yes = λ accepted. let clash : Refused ≡ Accepted = sym refused ∙ accepted in cc clash;
}

pub foreign_said : (mends : Bool) (k : Known) (denied : Denied) (words : List (List ℕ)) (call : Call) (e : Explanation) → IsCall words call
    → has_foreign call.given.items ≡ true → e.status ≡ Refused → IsSaid mends k denied words e
foreign_said mends k denied words call e is foreign refused = refused_said mends k denied words e refused (inl (call, is, rw foreign refl))

-- a call has the statuses of what is said of its script
pub under_text : (mends : Bool) (k : Known) (denied : Denied) (words : List (List ℕ)) (call : Call) (text : List ℕ) (e : Explanation) (status : Status)
    → IsJudgedCall k denied words call text e → IsUnder mends (IsOfMendedCall denied call text) e.status status → HasCallStatus mends k denied words status
under_text mends k denied words call text e status judged is = inl (
  call,
  judged.is_call,
  rw judged.is_judged (record {
    parts = judged.parts;
    are_parts = judged.are_parts;
    explanation = e;
    is_called = subst (λ text. IsCalled text denied call e) judged.is_text judged.is_called;
    is_status = subst (λ t. IsUnder mends (IsOfMendedCall denied call t) e.status status) judged.is_text is;
  }),
)

pub judged_said : (mends : Bool) (k : Known) (denied : Denied) (words : List (List ℕ)) (call : Call) (text : List ℕ) (e : Explanation)
    → IsJudgedCall k denied words call text e → IsSaid mends k denied words e
judged_said mends k denied words call text e judged = record {
  few = judged.few;
  has_status = under_text mends k denied words call text e e.status judged (inl refl);
  yes = λ accepted.
      let explained = subst (λ text. IsExplanation text None denied e) judged.is_text (judged.yes accepted) in (
        record {
          call = call;
          is_call = judged.is_call;
          is_judged = judged.is_judged;
          parts = judged.parts;
          are_parts = judged.are_parts;
          explanation = e;
          is_explanation = explained;
          is_yes = accepted;
        },
        explained,
      );
}
