-- From what `judge` answers to the status and the answer that C gets.
use Rattle.std.proofs.Common.{◌≡◌, ◌≢◌, ◌⊎◌, ◌↔◌, ◌≤◌, ℕ, List, Result, Ok, Err, refl, sym, subst, ap, inl, inr, arith}
use Rattle.sedck_commands.specs.Program.{Program}
use Rattle.sedck_script.specs.Spelling.{Spells}
use Rattle.sedck_commands.specs.declared.fault.ScriptFault.{ScriptFault}
use Rattle.sedck_commands.specs.declared.fault.ScriptFault.TheVariants as script
use Rattle.sedck_cert.specs.Certificate.{Certificate}
use Rattle.sedck_cert.specs.Versions.{SpellsCertificate}
use Rattle.sedck_cert.specs.Ranked.{Accepts}
use Rattle.sedck_cert.specs.Headline.{SpellBoth, IsAccepted, IsRejected, IsScriptFault, IsScriptFaultOf, IsCertificateFault, IsOutOfMemory, IsAnswered, ReportsFault, IsJudged, IsVerdict, IsLimit}
use Rattle.sedck_cert.specs.Everywhere.{IsLimitEverywhere}
use Rattle.sedck_cert.specs.declared.reading.CertFault.TheVariants as cert
use Rattle.sedck_cert.specs.declared.checking.Verdict.{Verdict}
use Rattle.sedck_cert.specs.declared.checking.Verdict.TheVariants.{Accepted, Rejected}
use Rattle.sedck_cert.specs.declared.verifying.Judged.{Judged}
use Rattle.sedck_cert.specs.declared.verifying.Fault.{Fault}
use Rattle.sedck_cert.specs.declared.verifying.Fault.TheVariants as faults
use Rattle.sedck_c.specs.Answers.{IsLimited, TellsReason, TellsScriptFault, TellsScriptFaultOf, TellsFaultOf}
use Rattle.sedck_c.specs.Private.Answers.{TellsFault, TellsVerdict}
use Rattle.sedck_c.specs.Private.Statuses.{status_of}
use Rattle.sedck_c.specs.declared.answer.Answer.{Answer}

-- ---- What a status says

pub accepted_of : (r : Result Verdict Fault) → status_of r ≡ 0 → IsAccepted r
accepted_of (Ok Accepted) e = refl
accepted_of (Ok (Rejected why)) e = absurd (omega (arith, e))
accepted_of (Err (faults.Script script.OutOfMemory)) e = absurd (omega (arith, e))
accepted_of (Err (faults.Certificate cert.OutOfMemory)) e = absurd (omega (arith, e))
accepted_of (Err (faults.Script why)) e = absurd (omega (arith, e))
accepted_of (Err (faults.Certificate why)) e = absurd (omega (arith, e))

pub rejected_of : (r : Result Verdict Fault) → status_of r ≡ 1 → IsRejected r
rejected_of (Ok Accepted) e = absurd (omega (arith, e))
rejected_of (Ok (Rejected why)) e = tt
rejected_of (Err (faults.Script script.OutOfMemory)) e = absurd (omega (arith, e))
rejected_of (Err (faults.Certificate cert.OutOfMemory)) e = absurd (omega (arith, e))
rejected_of (Err (faults.Script why)) e = absurd (omega (arith, e))
rejected_of (Err (faults.Certificate why)) e = absurd (omega (arith, e))

pub refused_of : (r : Result Verdict Fault) → status_of r ≡ 2 → IsScriptFault r ⊎ IsCertificateFault r
refused_of (Ok Accepted) e = absurd (omega (arith, e))
refused_of (Ok (Rejected why)) e = absurd (omega (arith, e))
refused_of (Err (faults.Script why)) e = inl tt
refused_of (Err (faults.Certificate why)) e = inr tt

pub enough : (r : Result Verdict Fault) → status_of r ≢ 4 → ¬ IsOutOfMemory r
enough (Ok verdict) some memory = memory
enough (Err (faults.Script script.OutOfMemory)) some memory = some refl
enough (Err (faults.Certificate cert.OutOfMemory)) some memory = some refl
enough (Err (faults.Script why)) some memory = memory
enough (Err (faults.Certificate why)) some memory = memory

pub within_of : (r : Result Verdict Fault) → (status_of r ≤ 2) ⊎ (status_of r ≡ 4)
within_of (Ok Accepted) = inl (omega arith)
within_of (Ok (Rejected why)) = inl (omega arith)
within_of (Err (faults.Script script.OutOfMemory)) = inr refl
within_of (Err (faults.Certificate cert.OutOfMemory)) = inr refl
within_of (Err (faults.Script why)) = inl (omega arith)
within_of (Err (faults.Certificate why)) = inl (omega arith)

status_rejected : (r : Result Verdict Fault) → IsRejected r → status_of r ≡ 1
status_rejected (Ok Accepted) never = absurd never
status_rejected (Ok (Rejected why)) is = refl
status_rejected (Err why) never = absurd never

-- ---- Which status comes where

pub exact_accepted : (text bytes : List ℕ) (r : Result Verdict Fault) → ((¬ IsOutOfMemory r) → IsAnswered text bytes r) → status_of r ≢ 4
    → (status_of r ≡ 0) ↔ SpellBoth text bytes Accepts
exact_accepted text bytes r answer some =
    let answered = answer (enough r some) in
    (λ e. answered.accepted.0 (accepted_of r e), λ both. ap status_of (answered.accepted.1 both))

pub exact_rejected : (text bytes : List ℕ) (r : Result Verdict Fault) → ((¬ IsOutOfMemory r) → IsAnswered text bytes r) → status_of r ≢ 4
    → (status_of r ≡ 1) ↔ SpellBoth text bytes (λ p c. ¬ Accepts p c)
exact_rejected text bytes r answer some =
    let answered = answer (enough r some) in
    (λ e. answered.rejected.0 (rejected_of r e), λ both. status_rejected r (answered.rejected.1 both))

pub refusal : (text bytes : List ℕ) (r : Result Verdict Fault) → ((¬ IsOutOfMemory r) → IsAnswered text bytes r) → status_of r ≡ 2
    → ((p : Program) → ¬ Spells text p) ⊎ (((p : Program) × Spells text p) × ((c : Certificate) → ¬ SpellsCertificate bytes c))
refusal text bytes r answer e =
    let answered = answer (enough r (λ four. absurd (omega (arith, e, four)))) in
    elim (refused_of r e) [ inl script ↦ inl (answered.script_fault.0 script) | inr certificate ↦ inr (answered.certificate_fault.0 certificate) ]

-- ---- What an answer tells

pub limit_told : (text bytes : List ℕ) (judged : Judged) (a : Answer) → IsJudged text bytes judged → IsLimitEverywhere judged.script judged.bound
    → TellsVerdict a judged judged.verdict → status_of (Ok judged.verdict) ≡ 0 → SpellBoth text bytes (IsLimited a)
limit_told text bytes judged a is everywhere tells e =
    let accepted : judged.verdict ≡ Accepted = let is_ok = accepted_of (Ok judged.verdict) e in cc in
    let told = subst (TellsVerdict a judged) accepted tells in
    record {
      program = judged.script;
      spelled = is.spelled;
      cert = judged.cert;
      written = is.written;
      holds = record {
        limit = subst (IsLimit judged.script judged.cert) (sym told.0) is.is_limit;
        everywhere = subst (IsLimitEverywhere judged.script) (sym told.0) everywhere;
        reads = told.1;
        writes = told.2;
      };
    }

reason_of : (text bytes : List ℕ) (judged : Judged) (a : Answer) (verdict : Verdict) → IsJudged text bytes judged
    → IsVerdict judged.script judged.cert verdict → TellsVerdict a judged verdict → status_of (Ok verdict) ≡ 1 → TellsReason text bytes a
reason_of text bytes judged a Accepted is accepts tells e = absurd (omega (arith, e))
reason_of text bytes judged a (Rejected why) is rejects tells e =
    (why, tells, record { program = judged.script; spelled = is.spelled; cert = judged.cert; written = is.written; holds = rejects })

pub reason_told : (text bytes : List ℕ) (judged : Judged) (a : Answer) → IsJudged text bytes judged → TellsVerdict a judged judged.verdict
    → status_of (Ok judged.verdict) ≡ 1 → TellsReason text bytes a
reason_told text bytes judged a is tells e = reason_of text bytes judged a judged.verdict is is.is_verdict tells e

script_fault_told : (text : List ℕ) (a : Answer) (why : ScriptFault) → TellsScriptFault a why → IsScriptFaultOf text why
    → status_of (Err (faults.Script why)) ≡ 2 → TellsScriptFaultOf text a
script_fault_told text a script.OutOfMemory tells is e = absurd (omega (arith, e))
script_fault_told text a why tells is e = (why, tells, λ memory. cc, is)

pub fault_told : (text bytes : List ℕ) (a : Answer) (why : Fault) → TellsFault a why → ReportsFault text bytes (Err why)
    → ((¬ IsOutOfMemory (Err why)) → IsAnswered text bytes (Err why)) → status_of (Err why) ≡ 2 → TellsFaultOf text bytes a
fault_told text bytes a (faults.Script why) tells reported answer e = inl (script_fault_told text a why tells reported e)
fault_told text bytes a (faults.Certificate why) tells (inl memory) answer e =
    absurd (omega (arith, subst (λ w. status_of (Err (faults.Certificate w)) ≡ 2) memory e))
fault_told text bytes a (faults.Certificate why) tells (inr is) answer e =
    let answered = answer (enough (Err (faults.Certificate why)) (λ four. absurd (omega (arith, e, four)))) in
    inr ((answered.certificate_fault.0 tt).0, (why, tells, is))

-- ---- What no fault and no verdict has

pub fault_accepts : (why : Fault) → status_of (Err why) ≡ 0 → ⊥
fault_accepts why e = let is = accepted_of (Err why) e in cc

pub fault_rejects : (why : Fault) → status_of (Err why) ≡ 1 → ⊥
fault_rejects why e = rejected_of (Err why) e

pub verdict_refuses : (verdict : Verdict) → status_of (Ok verdict) ≡ 2 → ⊥
verdict_refuses Accepted e = absurd (omega (arith, e))
verdict_refuses (Rejected why) e = absurd (omega (arith, e))
