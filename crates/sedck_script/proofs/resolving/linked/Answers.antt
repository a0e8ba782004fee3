use Rattle.sedck_script.proofs.Common.{if_err_from, if_err_more, if_ok_more}
use Rattle.sedck_script.proofs.ProgramLemmas.{lost_among}
use Rattle.sedck_script.proofs.resolving.linked.Goals as goal

pub resolve-requires-clause-known : goal.resolve-requires-clause-known
resolve-requires-clause-known c = rw c.deref.ensures.value at c.in_ok-check_targets.ensures.known

pub returns-in_err-check_targets-clause-first : goal.returns-in_err-check_targets-clause-first
returns-in_err-check_targets-clause-first c = if_err_from _ c.from_residual.result _ c.from_residual.ensures.1
    (λ memory. lost_among c.deref.ensures.value c.in_err-check_targets.ensures.first)

pub returns-clause-first : goal.returns-clause-first
returns-clause-first c = if_err_more c.resolve.result (λ fault is memory. absurd (memory is)) c.resolve.ensures.memory

pub returns-clause-known : goal.returns-clause-known
returns-clause-known c = if_ok_more c.resolve.result (λ v resolved. rw c.deref.ensures.value at c.in_ok-check_targets.ensures.known) c.resolve.ensures.resolved
