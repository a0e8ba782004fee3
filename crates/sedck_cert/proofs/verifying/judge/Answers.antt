use Rattle.sedck_cert.proofs.Promise.{is_judged, promised, promised_everywhere, answered, no_script, no_certificate}
use Rattle.sedck_cert.proofs.Common.{IsJudged}
use Rattle.sedck_cert.proofs.verifying.judge.Goals as goal
use Rattle.sedck_cert.proofs.verifying.judge.Goals.{After-with_verdict}

-- what was read and judged
judged : (c : After-with_verdict) → IsJudged c.args.script.now c.args.certificate.now c.with_verdict.result
judged c =
    let script = c.in-Ok.ensures in
    let cert = c.in-Ok-read_any.ensures in
    let with = c.with_verdict.ensures in
    is_judged c.args.script.now c.args.certificate.now c.with_verdict.result _ _ with.script with.cert script.spelled script.only cert.read cert.only
    with.verdict with.limit

pub returns-clause-judged : goal.returns-clause-judged
returns-clause-judged c = judged c

-- accepted means that the runs end and the files are listed
pub returns-clause-promise : goal.returns-clause-promise
returns-clause-promise c is = promised c.args.script.now c.args.certificate.now c.with_verdict.result (judged c) cc

pub returns-clause-everywhere : goal.returns-clause-everywhere
returns-clause-everywhere c is = promised_everywhere c.args.script.now c.args.certificate.now c.with_verdict.result (judged c) cc

pub returns-clause-answer : goal.returns-clause-answer
returns-clause-answer c _ = answered c.args.script.now c.args.certificate.now c.with_verdict.result (judged c)

-- a text that spells no script
pub returns-in-Err-clause-answer : goal.returns-in-Err-clause-answer
returns-in-Err-clause-answer c = no_script c.args.script.now c.args.certificate.now c.in-Err.fault c.in-Err.ensures.refused

-- a text that spells no certificate
pub returns-in-Err-read_any-clause-answer : goal.returns-in-Err-read_any-clause-answer
returns-in-Err-read_any-clause-answer c =
    no_certificate c.args.script.now c.args.certificate.now _ c.in-Err-read_any.fault c.in-Ok.ensures.spelled c.in-Err-read_any.ensures.refused
