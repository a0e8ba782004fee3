use Rattle.sedck_cert.proofs.Promise.{says_why}
use Rattle.sedck_cert.proofs.verifying.verify.Goals as goal

-- a rejection says why
pub returns-in-Ok-clause-why : goal.returns-in-Ok-clause-why
returns-in-Ok-clause-why c = says_why c.args.script.now c.args.certificate.now c.in-Ok.judged c.in-Ok.ensures.judged
