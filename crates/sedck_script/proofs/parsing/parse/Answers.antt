use Rattle.sedck_script.proofs.Common.{if_err_more, if_err_from}
use Rattle.sedck_script.proofs.FirstFaultIsOne.{first_fault_refuses}
use Rattle.sedck_script.proofs.parsing.parse.Goals as goal

pub returns-in_err-progress-clause-refused : goal.returns-in_err-progress-clause-refused
returns-in_err-progress-clause-refused c = if_err_from _ c.from_residual.result _ c.from_residual.ensures.1
    (λ memory. first_fault_refuses c.args.text.now _ (c.in_err-progress.ensures.first memory))

pub returns-clause-refused : goal.returns-clause-refused
returns-clause-refused c = if_err_more c.script.result (λ fault first memory. first_fault_refuses c.args.text.now fault (first memory)) c.script.ensures.first
