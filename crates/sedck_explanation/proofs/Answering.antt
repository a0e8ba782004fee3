-- From what an engine answers to the answer.
use Rattle.sedck_explanation.proofs.Common.{◌≡◌, ℕ, List, Option, Some, None, Result, Ok, Err, IfOk, IfSome, refl, Program, Spells, if_some_at, Certificate, Only, Answer, CertificateRefused, Accepted, Rejected, Endless, IsAnswer}
use Rattle.std.proofs.Common.{◌≢◌, ◌⊎◌, inl, inr}
use Rattle.sedck_commands.specs.declared.fault.ScriptFault.{ScriptFault}
use Rattle.sedck_commands.specs.declared.fault.ScriptFault.TheVariants as script
use Rattle.sedck_cert.specs.Versions.{SpellsCertificate, IsFaultIn}
use Rattle.sedck_cert.specs.Headline.{IsScriptFaultOf}
use Rattle.sedck_cert.specs.declared.reading.CertFault.{CertFault}
use Rattle.sedck_cert.specs.declared.reading.CertFault.TheVariants as cert
use Rattle.sedck_cert.specs.declared.verifying.Fault.TheVariants as below
use Rattle.sedck_explanation.specs.Private.Answering.{IsFoundAnswer, IsJudgedAnswer, refusal}

certificate_refusal : (p : Program) (bytes : List ℕ) (why : CertFault)
    → (why ≡ cert.OutOfMemory) ⊎ (((c : Certificate) → ¬ SpellsCertificate bytes c) × IsFaultIn bytes why)
    → IfSome (refusal (below.Certificate why)) (IsJudgedAnswer p bytes)
certificate_refusal p bytes cert.OutOfMemory refused = tt
certificate_refusal p bytes why (inl memory) = cc
certificate_refusal p bytes why (inr is_fault) = is_fault

-- what `read_any` refuses
pub certificate_refused : (p : Program) (bytes : List ℕ) (why : CertFault) (answer : Answer) → refusal (below.Certificate why) ≡ Some answer
    → (why ≡ cert.OutOfMemory) ⊎ (((c : Certificate) → ¬ SpellsCertificate bytes c) × IsFaultIn bytes why) → IsJudgedAnswer p bytes answer
certificate_refused p bytes why answer is refused =
    if_some_at (IsJudgedAnswer p bytes) is (certificate_refusal p bytes why refused)

-- the answer for the script's text, where this script is read from it
pub judged_answer : (text bytes : List ℕ) (p : Program) (answer : Answer) → Only Spells text p → IsJudgedAnswer p bytes answer → IsAnswer text (Some bytes) answer
judged_answer text bytes p (CertificateRefused why) spelled h = ((p, spelled.spells), h.0, h.1)
judged_answer text bytes p (Accepted c limits) spelled h =
    record { program = p; spelled = spelled; cert = c; written = h.0; holds = (refl, h.1, h.2) }
judged_answer text bytes p (Rejected c why) spelled h = record { program = p; spelled = spelled; cert = c; written = h.0; holds = (refl, h.1) }
judged_answer text bytes p _ spelled h = absurd h

locate_refusal : (text : List ℕ) (given : Option (List ℕ)) (why : ScriptFault) → (why ≢ script.OutOfMemory → (p : Program) → ¬ Spells text p)
    → IsScriptFaultOf text why → IfSome (refusal (below.Script why)) (IsAnswer text given)
locate_refusal text given script.OutOfMemory refused is_fault = tt
locate_refusal text given why refused is_fault = ((λ e. cc), refused (λ e. cc), is_fault)

-- what `locate` refuses
pub locate_refused : (text : List ℕ) (given : Option (List ℕ)) (why : ScriptFault) (answer : Answer) → refusal (below.Script why) ≡ Some answer
    → (why ≢ script.OutOfMemory → (p : Program) → ¬ Spells text p) → IsScriptFaultOf text why → IsAnswer text given answer
locate_refused text given why answer is refused is_fault =
    if_some_at (IsAnswer text given) is (locate_refusal text given why refused is_fault)

-- what `search` finds
pub search_found : (text : List ℕ) (p : Program) (answer : Answer) → Only Spells text p → IsFoundAnswer p answer → IsAnswer text None answer
search_found text p (Accepted cert limits) spelled found = (p, spelled, found)
search_found text p (Endless walk) spelled found = (p, spelled, found)
search_found text p _ spelled found = absurd found

-- what follows from a promise on success
pub on_ok : {T E : Type 0} (P Q : T → Type 0) (r : Result T E) → ((x : T) → P x → Q x) → IfOk r P → IfOk r Q
on_ok P Q (Ok x) follows is = follows x is
on_ok P Q (Err e) follows is = is

-- the same error
pub err_is_err : {T E : Type 0} {a b : E} → ◌≡◌ {A = Result T E} (Err a) (Err b) → a ≡ b
err_is_err is = cc
