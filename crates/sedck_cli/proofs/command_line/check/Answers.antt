use Rattle.sedck_cli.specs.declared.command_line.Refusal.TheVariants.{Run}
use Rattle.sedck_engines.proofs.Answering.{err_is}
use Rattle.sedck_cli.proofs.Ending.{check_answered, check_stopped}
use Rattle.sedck_cli.proofs.command_line.check.Goals as goal

pub returns-in_err-run_check-clause-leaves : goal.returns-in_err-run_check-clause-leaves
returns-in_err-run_check-clause-leaves g c =
    let why = c.in_err-run_check.field-0.0 in
    let is = err_is c.from_residual-in_err-run_check.result (Run why) c.from_residual-in_err-run_check.ensures.1 in
    rw is (check_stopped (g.O.Opener.known c.args.files.now) c.args.script.now c.args.certificate.now _ _ _ why c.in_err-run_check.ensures
    (record { opened = c.in_ok-script.ensures.opened; bytes = c.in_ok-script.ensures.bytes; failing = λ failed. c.in_ok-script.ensures.failing c.run_check.new.script failed })
    (record { opened = c.in_ok-certificate.ensures.opened; bytes = c.in_ok-certificate.ensures.bytes; failing = λ failed. c.in_ok-certificate.ensures.failing c.run_check.new.cert failed }))

pub returns-clause-leaves : goal.returns-clause-leaves
returns-clause-leaves g c =
    check_answered (g.O.Opener.known c.args.files.now) c.args.script.now c.args.certificate.now _ _
    (record { before = g.W.Sink.taken c.args.out.now; after = g.W.Sink.taken c.run_check.new.out; failed = g.W.Sink.has_failed c.run_check.new.out })
    c.in_ok-run_check.field-0 c.in_ok-run_check.ensures
    (record { opened = c.in_ok-script.ensures.opened; bytes = c.in_ok-script.ensures.bytes; failing = λ failed. c.in_ok-script.ensures.failing c.run_check.new.script failed })
    (record { opened = c.in_ok-certificate.ensures.opened; bytes = c.in_ok-certificate.ensures.bytes; failing = λ failed. c.in_ok-certificate.ensures.failing c.run_check.new.cert failed })
