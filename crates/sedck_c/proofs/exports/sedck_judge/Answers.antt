use Rattle.std.proofs.Common.{◌≡◌, ◌⊎◌, ◌≤◌, ◌∙◌, Err, refl, sym, subst, inl, inr, arith}
use Rattle.sedck_cert.specs.declared.verifying.Fault.TheVariants as faults
use Rattle.sedck_c.proofs.Checks.{within_of, fault_accepts, fault_rejects}
use Rattle.sedck_c.proofs.Judging.{put_within, put_listed, put_zero, put_never, accepted_one, told_one, needed_one, one_or_none, fault_within, fault_has_room, no_program, script_fault_told, unspelled_one, unspelled_none}
use Rattle.sedck_c.proofs.exports.sedck_judge.Goals as goal

-- ---- Where a certificate is found

pub returns-in-Ok-Some-clause-promise : goal.returns-in-Ok-Some-clause-promise
returns-in-Ok-Some-clause-promise c e =
    told_one c.args.script.now c.in-Ok-Some.found c.of_accepted.result c.put_lists.new.room c.put_lists.new.needed
    (rw c.in-Ok-Some.field-0-is at c.in-Ok-Some.ensures).found
    (put_listed c.in-Ok-Some.found.cert c.put_lists.result c.put_lists.new.room c.put_lists.new.needed c.put_lists.ensures.needed c.put_lists.ensures.put e)
    c.of_accepted.ensures.bound c.of_accepted.ensures.reads c.of_accepted.ensures.writes

pub returns-in-Ok-Some-clause-within : goal.returns-in-Ok-Some-clause-within
returns-in-Ok-Some-clause-within c = put_within c.put_lists.result c.put_lists.ensures.put

pub returns-in-Ok-Some-clause-accepted : goal.returns-in-Ok-Some-clause-accepted
returns-in-Ok-Some-clause-accepted c some room = (
  λ _. accepted_one c.args.script.now c.in-Ok-Some.found (rw c.in-Ok-Some.field-0-is at c.in-Ok-Some.ensures).found,
  λ _. put_zero c.put_lists.result c.put_lists.ensures.put some room,
)

pub returns-in-Ok-Some-clause-rejected : goal.returns-in-Ok-Some-clause-rejected
returns-in-Ok-Some-clause-rejected c some room = (
  λ e. absurd (put_never c.put_lists.result c.put_lists.ensures.put (inl e)),
  λ none. absurd (one_or_none c.args.script.now none (accepted_one c.args.script.now c.in-Ok-Some.found (rw c.in-Ok-Some.field-0-is at c.in-Ok-Some.ensures).found)),
)

pub returns-in-Ok-Some-clause-refused : goal.returns-in-Ok-Some-clause-refused
returns-in-Ok-Some-clause-refused c e = absurd (put_never c.put_lists.result c.put_lists.ensures.put (inr e))

pub returns-in-Ok-Some-clause-small : goal.returns-in-Ok-Some-clause-small
returns-in-Ok-Some-clause-small c e =
    needed_one c.args.script.now c.in-Ok-Some.found c.put_lists.result c.put_lists.new.needed (rw c.in-Ok-Some.field-0-is at c.in-Ok-Some.ensures).found
    c.put_lists.ensures.needed c.put_lists.ensures.put e

pub returns-in-Ok-Some-clause-fault : goal.returns-in-Ok-Some-clause-fault
returns-in-Ok-Some-clause-fault c e = absurd (put_never c.put_lists.result c.put_lists.ensures.put (inr e))

-- ---- Where a loop rules all out

pub returns-in-Ok-None-clause-accepted : goal.returns-in-Ok-None-clause-accepted
returns-in-Ok-None-clause-accepted c some room =
    (λ e. absurd (omega (arith, e)), λ one. absurd (one_or_none c.args.script.now (rw c.in-Ok-None.field-0-is at c.in-Ok-None.ensures).found one))

pub returns-in-Ok-None-clause-rejected : goal.returns-in-Ok-None-clause-rejected
returns-in-Ok-None-clause-rejected c some room = (λ _. (rw c.in-Ok-None.field-0-is at c.in-Ok-None.ensures).found, λ _. refl)

-- ---- Where the script is refused, or memory ran out

pub returns-in-Err-clause-promise : goal.returns-in-Err-clause-promise
returns-in-Err-clause-promise c e = absurd (fault_accepts (faults.Script c.in-Err.why) (sym c.fault_status.ensures ∙ e))

pub returns-in-Err-clause-within : goal.returns-in-Err-clause-within
returns-in-Err-clause-within c = subst (λ s. (s ≤ 2) ⊎ (s ≡ 4) ⊎ (s ≡ 5)) (sym c.fault_status.ensures) (fault_within (within_of (Err (faults.Script c.in-Err.why))))

pub returns-in-Err-clause-accepted : goal.returns-in-Err-clause-accepted
returns-in-Err-clause-accepted c some room = (
  λ e. absurd (fault_accepts (faults.Script c.in-Err.why) (sym c.fault_status.ensures ∙ e)),
  λ one. absurd (unspelled_one c.args.script.now c.in-Err.why c.in-Err.ensures.refused (λ four. some (c.fault_status.ensures ∙ four)) one),
)

pub returns-in-Err-clause-rejected : goal.returns-in-Err-clause-rejected
returns-in-Err-clause-rejected c some room = (
  λ e. absurd (fault_rejects (faults.Script c.in-Err.why) (sym c.fault_status.ensures ∙ e)),
  λ none. absurd (unspelled_none c.args.script.now c.in-Err.why c.in-Err.ensures.refused (λ four. some (c.fault_status.ensures ∙ four)) none),
)

pub returns-in-Err-clause-refused : goal.returns-in-Err-clause-refused
returns-in-Err-clause-refused c e =
    no_program c.args.script.now c.in-Err.why c.in-Err.ensures.refused (λ four. absurd (omega (arith, four, sym c.fault_status.ensures ∙ e)))

pub returns-in-Err-clause-small : goal.returns-in-Err-clause-small
returns-in-Err-clause-small c e = absurd (fault_has_room _ (within_of (Err (faults.Script c.in-Err.why))) (sym c.fault_status.ensures ∙ e))

pub returns-in-Err-clause-fault : goal.returns-in-Err-clause-fault
returns-in-Err-clause-fault c e =
    script_fault_told c.args.script.now c.of_script_fault.result c.in-Err.why c.of_script_fault.ensures c.in-Err.ensures.refused (sym c.fault_status.ensures ∙ e)
