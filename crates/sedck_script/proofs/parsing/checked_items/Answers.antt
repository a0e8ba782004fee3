use Rattle.sedck_script.proofs.Common.{if_ok_more, if_err_more, IsFirstFault}
use Rattle.sedck_script.proofs.parsing.checked_items.Goals as goal

pub returns-clause-allowed : goal.returns-clause-allowed
returns-clause-allowed c = if_ok_more c.read_items.result (λ progress read. c.in_ok-check_text.ensures.allowed) c.read_items.ensures.read

pub returns-clause-first : goal.returns-clause-first
returns-clause-first c = if_err_more c.read_items.result
    (λ fault x memory. IsFirstFault.items c.in_ok-check_text.ensures.allowed (x memory)) c.read_items.ensures.first
