-- What a yes says of a call.
use Rattle.sedck_calls_in_files.proofs.Common.{◌≡◌, ◌∙◌, inl, inr, ℕ, Bool, true, false, List, [], ◌∷◌, None, refl, sym, ap, true≢false, IsCall, IsCalled, Denied, Status, Explanation, FoundCall, words_of, is_open, status_with, IsJudged, IsSaidOfCall, IsSaidOfText, IsSaidOf, IsSaidOfFound, IsAcceptedFound, AskedOfCalls, denied_of, is_set_in}
use Rattle.std.proofs.Common.{◌⊎◌, MatchBool}
use Rattle.sedck_call.specs.declared.call.Call.{Call}
use Rattle.sedck_explanation.specs.Called.{has_foreign, is_denied_call, IsDenied}
use Rattle.sedck_explanation.specs.Explanations.{IsExplanation}
use Rattle.sedck_answer.specs.Status.{is_accepted}
use Rattle.sedck_answer.specs.declared.status.Status.TheVariants as exit
use Rattle.sedck_found.specs.declared.found.FoundScript.{FoundScript}
use Rattle.sedck_found.specs.declared.found.OpenHole.{OpenHole}
use Rattle.sedck_found.specs.declared.found.FoundScript.TheVariants.{Text, Foreign, Refused, Unknown}
use Rattle.sedck_origin.specs.Traced.{has_hole}
use Rattle.sedck_origin.specs.declared.origin.Traced.{Traced}
use Rattle.sedck_calls_in_files.specs.Judged.{is_in_file, IsUnjudged, IsAcceptedText, IsAcceptedScript}

by_test : (b : Bool) (A B : Type 0) → MatchBool b A B → ((b ≡ true) × A) ⊎ ((b ≡ false) × B)
by_test true A B holds = inl (refl, holds)
by_test false A B holds = inr (refl, holds)

-- a yes is one of a script that is known
yes_is_known : (partly : Bool) (status : Status) → status_with partly status ≡ exit.Accepted → (partly ≡ false) × (status ≡ exit.Accepted)
yes_is_known false status is = (refl, is)
yes_is_known true exit.Accepted is = absurd (cc is)
yes_is_known true _ is = absurd (cc is)

yes_is_judged : (status : Status) (e : Explanation) → is_accepted status ≡ false → IsUnjudged status e → e.status ≡ exit.Accepted → ⊥
yes_is_judged status e other said is = true≢false (sym (ap is_accepted (sym said.is_status ∙ is)) ∙ other)

-- the script of a call that is explained with a yes
yes_explained : (text : List ℕ) (denied : Denied) (call : Call) (e : Explanation) → IsCalled text denied call e → e.status ≡ exit.Accepted
    → (judged : Explanation) × IsExplanation text None denied judged × (judged.status ≡ exit.Accepted)
yes_explained text denied call e called is = by_cases (by_test _ _ _ called.said)
  where
    by_cases : ((is_denied_call denied call called.judged.status ≡ true) × IsDenied text called.judged e)
        ⊎ ((is_denied_call denied call called.judged.status ≡ false) × (e ≡ called.judged))
        → (judged : Explanation) × IsExplanation text None denied judged × (judged.status ≡ exit.Accepted)
    by_cases (inl denial) =
        let clash : exit.Rejected ≡ exit.Accepted = sym denial.1.status ∙ is in
        absurd (cc clash)
    by_cases (inr same) = (called.judged, called.is_explanation, sym (ap (λ x. x.status) same.1) ∙ is)

-- where nothing is open, nothing is in any of the two ways
closed : (text : Traced) (holes : List OpenHole) → is_open text holes ≡ false → (has_hole text.origins.items ≡ false) × (holes ≡ [])
closed text [] is = (is, refl)
closed text (hole ∷ holes) is = absurd (true≢false is)

yes_of_call : (file : List ℕ) (denied : Denied) (words : List Traced) (call : Call) (text : Traced) (holes : List OpenHole) (e : Explanation)
    → IsCall (words_of words) call → IsSaidOfCall file denied words call text holes e → e.status ≡ exit.Accepted
    → IsAcceptedText file denied words text holes
yes_of_call file denied words call text holes e is_call said is = by_language (by_test _ _ _ said)
  where
    accepted : has_foreign call.given.items ≡ false → is_in_file file words call text ≡ true → IsJudged denied call text holes e
        → IsAcceptedText file denied words text holes
    accepted judged in_file by =
        let known = yes_is_known (is_open text holes) by.called.status (sym by.is_status ∙ is) in
        let shut = closed text holes known.0 in
        let explained = yes_explained text.bytes.items denied call by.called by.is_called known.1 in
        record {
          call = call;
          is_call = is_call;
          is_judged = judged;
          in_file = in_file;
          known = shut.0;
          unconditional = shut.1;
          explanation = explained.0;
          is_explanation = explained.1;
          is_yes = explained.2;
        }

    by_file : has_foreign call.given.items ≡ false
        → ((is_in_file file words call text ≡ true) × IsJudged denied call text holes e) ⊎ ((is_in_file file words call text ≡ false) × IsUnjudged exit.Unknown e)
        → IsAcceptedText file denied words text holes
    by_file judged (inl traced) = accepted judged traced.0 traced.1
    by_file judged (inr other) = absurd (yes_is_judged exit.Unknown e refl other.1 is)

    by_language : ((has_foreign call.given.items ≡ true) × IsUnjudged exit.Refused e)
        ⊎ ((has_foreign call.given.items ≡ false) × MatchBool (is_in_file file words call text) (IsJudged denied call text holes e) (IsUnjudged exit.Unknown e))
        → IsAcceptedText file denied words text holes
    by_language (inl foreign) = absurd (yes_is_judged exit.Refused e refl foreign.1 is)
    by_language (inr judged) = by_file judged.0 (by_test _ _ _ judged.1)

yes_of_text : (file : List ℕ) (denied : Denied) (words : List Traced) (text : Traced) (holes : List OpenHole) (e : Explanation)
    → IsSaidOfText file denied words text holes e → e.status ≡ exit.Accepted → IsAcceptedText file denied words text holes
yes_of_text file denied words text holes e (inl known) is = yes_of_call file denied words known.0 text holes e known.1 known.2 is
yes_of_text file denied words text holes e (inr none) is = absurd (yes_is_judged exit.Unknown e refl none.1 is)

yes_of_script : (file : List ℕ) (denied : Denied) (words : List Traced) (script : FoundScript) (e : Explanation)
    → IsSaidOf file denied words script e → e.status ≡ exit.Accepted → IsAcceptedScript file denied words script
yes_of_script file denied words (Text call text holes) e said is = yes_of_text file denied words text holes.items e said is
yes_of_script file denied words (Foreign call) e said is = absurd (yes_is_judged exit.Refused e refl said is)
yes_of_script file denied words (Refused fault) e said is = absurd (yes_is_judged exit.Refused e refl said is)
yes_of_script file denied words (Unknown why) e said is = absurd (yes_is_judged exit.Unknown e refl said is)

pub yes_of_found : (file : List ℕ) (asked : AskedOfCalls) (found : FoundCall) (e : Explanation)
    → IsSaidOfFound file asked found e → e.status ≡ exit.Accepted → IsAcceptedFound file asked found
yes_of_found file asked found e said is =
    let known = yes_is_known (is_set_in asked.assumed found) said.before.status (sym said.is_status ∙ is) in
    record {
      accepted = yes_of_script file (denied_of found asked.denied) found.words.items found.script said.before said.is_said known.1;
      unset = known.0;
    }
