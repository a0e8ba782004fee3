use Rattle.std.proofs.Common.{◌≡◌, ◌≢◌, ◌⊎◌, ◌↔◌, ◌≤◌, ◌∙◌, Ok, Err, sym, subst}
use Rattle.sedck_cert.specs.Ranked.{Accepts}
use Rattle.sedck_cert.specs.Headline.{SpellBoth}
use Rattle.sedck_c.proofs.Checks.{accepted_of, within_of, exact_accepted, exact_rejected, refusal, limit_told, reason_told, fault_told, fault_accepts, fault_rejects, verdict_refuses}
use Rattle.sedck_c.proofs.exports.sedck_check.Goals as goal

-- ---- Where something was judged

pub returns-in-Ok-clause-promise : goal.returns-in-Ok-clause-promise
returns-in-Ok-clause-promise c e = c.in-Ok.ensures.promise (accepted_of (Ok c.in-Ok.judged.verdict) (sym c.verdict_status.ensures ∙ e))

pub returns-in-Ok-clause-everywhere : goal.returns-in-Ok-clause-everywhere
returns-in-Ok-clause-everywhere c e = c.in-Ok.ensures.everywhere (accepted_of (Ok c.in-Ok.judged.verdict) (sym c.verdict_status.ensures ∙ e))

pub returns-in-Ok-clause-within : goal.returns-in-Ok-clause-within
returns-in-Ok-clause-within c = subst (λ s. (s ≤ 2) ⊎ (s ≡ 4)) (sym c.verdict_status.ensures) (within_of (Ok c.in-Ok.judged.verdict))

pub returns-in-Ok-clause-accepted : goal.returns-in-Ok-clause-accepted
returns-in-Ok-clause-accepted c =
    subst (λ s. s ≢ 4 → (s ≡ 0) ↔ SpellBoth c.args.script.now c.args.certificate.now Accepts) (sym c.verdict_status.ensures)
    (exact_accepted c.args.script.now c.args.certificate.now (Ok c.in-Ok.judged.verdict) c.in-Ok.ensures.answer)

pub returns-in-Ok-clause-rejected : goal.returns-in-Ok-clause-rejected
returns-in-Ok-clause-rejected c =
    subst (λ s. s ≢ 4 → (s ≡ 1) ↔ SpellBoth c.args.script.now c.args.certificate.now (λ p d. ¬ Accepts p d)) (sym c.verdict_status.ensures)
    (exact_rejected c.args.script.now c.args.certificate.now (Ok c.in-Ok.judged.verdict) c.in-Ok.ensures.answer)

pub returns-in-Ok-clause-refused : goal.returns-in-Ok-clause-refused
returns-in-Ok-clause-refused c e = absurd (verdict_refuses c.in-Ok.judged.verdict (sym c.verdict_status.ensures ∙ e))

pub returns-in-Ok-clause-limited : goal.returns-in-Ok-clause-limited
returns-in-Ok-clause-limited c e =
    limit_told c.args.script.now c.args.certificate.now c.in-Ok.judged c.of_judged.result c.in-Ok.ensures.judged c.in-Ok.ensures.limited c.of_judged.ensures
    (sym c.verdict_status.ensures ∙ e)

pub returns-in-Ok-clause-reason : goal.returns-in-Ok-clause-reason
returns-in-Ok-clause-reason c e =
    reason_told c.args.script.now c.args.certificate.now c.in-Ok.judged c.of_judged.result c.in-Ok.ensures.judged c.of_judged.ensures (sym c.verdict_status.ensures ∙ e)

pub returns-in-Ok-clause-fault : goal.returns-in-Ok-clause-fault
returns-in-Ok-clause-fault c e = absurd (verdict_refuses c.in-Ok.judged.verdict (sym c.verdict_status.ensures ∙ e))

-- ---- Where a text is refused, or memory ran out

pub returns-in-Err-clause-promise : goal.returns-in-Err-clause-promise
returns-in-Err-clause-promise c e = absurd (fault_accepts c.in-Err.fault (sym c.fault_status.ensures ∙ e))

pub returns-in-Err-clause-everywhere : goal.returns-in-Err-clause-everywhere
returns-in-Err-clause-everywhere c e = absurd (fault_accepts c.in-Err.fault (sym c.fault_status.ensures ∙ e))

pub returns-in-Err-clause-within : goal.returns-in-Err-clause-within
returns-in-Err-clause-within c = subst (λ s. (s ≤ 2) ⊎ (s ≡ 4)) (sym c.fault_status.ensures) (within_of (Err c.in-Err.fault))

pub returns-in-Err-clause-accepted : goal.returns-in-Err-clause-accepted
returns-in-Err-clause-accepted c =
    subst (λ s. s ≢ 4 → (s ≡ 0) ↔ SpellBoth c.args.script.now c.args.certificate.now Accepts) (sym c.fault_status.ensures)
    (exact_accepted c.args.script.now c.args.certificate.now (Err c.in-Err.fault) c.in-Err.ensures.answer)

pub returns-in-Err-clause-rejected : goal.returns-in-Err-clause-rejected
returns-in-Err-clause-rejected c =
    subst (λ s. s ≢ 4 → (s ≡ 1) ↔ SpellBoth c.args.script.now c.args.certificate.now (λ p d. ¬ Accepts p d)) (sym c.fault_status.ensures)
    (exact_rejected c.args.script.now c.args.certificate.now (Err c.in-Err.fault) c.in-Err.ensures.answer)

pub returns-in-Err-clause-refused : goal.returns-in-Err-clause-refused
returns-in-Err-clause-refused c e =
    refusal c.args.script.now c.args.certificate.now (Err c.in-Err.fault) c.in-Err.ensures.answer (sym c.fault_status.ensures ∙ e)

pub returns-in-Err-clause-limited : goal.returns-in-Err-clause-limited
returns-in-Err-clause-limited c e = absurd (fault_accepts c.in-Err.fault (sym c.fault_status.ensures ∙ e))

pub returns-in-Err-clause-reason : goal.returns-in-Err-clause-reason
returns-in-Err-clause-reason c e = absurd (fault_rejects c.in-Err.fault (sym c.fault_status.ensures ∙ e))

pub returns-in-Err-clause-fault : goal.returns-in-Err-clause-fault
returns-in-Err-clause-fault c e =
    fault_told c.args.script.now c.args.certificate.now c.of_fault.result c.in-Err.fault c.of_fault.ensures c.in-Err.ensures.reported
    c.in-Err.ensures.answer (sym c.fault_status.ensures ∙ e)
