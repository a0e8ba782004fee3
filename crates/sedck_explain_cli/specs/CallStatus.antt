-- The exit status of a call of sed, by what is known of its files, this project's own.
use Rattle.std.specs.Prelude.{◌≡◌, ◌⊎◌, ℕ, Bool, List, MatchBool}
use Rattle.sedck_call.specs.Calls.{IsCall}
use Rattle.sedck_call.specs.Scripts.{joined_texts}
use Rattle.sedck_call.specs.declared.call.Call.{Call}
use Rattle.sedck_explanation.specs.Called.{has_foreign, AreParts, IsCalled}
use Rattle.sedck_engines.specs.Opened.{Known}
use Rattle.sedck_errors.specs.declared.denied.Denied.{Denied}
use Rattle.sedck_answer.specs.declared.explanation.Explanation.{Explanation}
use Rattle.sedck_answer.specs.declared.status.Status.{Status}
use Rattle.sedck_answer.specs.declared.status.Status.TheVariants.{Refused}
use Rattle.sedck_explain_cli.specs.Mended.{IsOfMendedCall, IsUnder}

-- the status of what is said of the call whose script is its parts, joined
pub record HasJudgedStatus (mends : Bool) (k : Known) (denied : Denied) (words : List (List ℕ)) (call : Call) (status : Status) : Type 0 where
  pub parts : List (List ℕ)
  pub are_parts : AreParts k words call.pieces.items parts
  pub explanation : Explanation
  pub is_called : IsCalled (joined_texts parts) denied call explanation
  pub is_status : IsUnder mends (IsOfMendedCall denied call (joined_texts parts)) explanation.status status

-- the status of the words after the name of sed: that of what is refused where they are no call, or an option changes the language
abbrev pub HasCallStatus : Bool → Known → Denied → List (List ℕ) → Status → Type 0
HasCallStatus mends k denied words status =
    ((call : Call) × IsCall words call × MatchBool (has_foreign call.given.items) (status ≡ Refused) (HasJudgedStatus mends k denied words call status))
    ⊎ (((call : Call) → IsCall words call → ⊥) × (status ≡ Refused))
