use Rattle.sedck_explanation.proofs.Answering.{certificate_refused, on_ok}
use Rattle.sedck_explanation.proofs.answer.judged_answer.Goals as goal

pub returns-in-Err : goal.returns-in-Err
returns-in-Err c = on_ok _ _ _ (λ answer is. certificate_refused c.args.script.now c.args.certificate.now c.in-Err.fault answer is c.in-Err.ensures.refused) c.refused_certificate.ensures
