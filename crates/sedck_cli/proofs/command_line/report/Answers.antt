use Rattle.sedck_cli.specs.declared.command_line.Refusal.TheVariants.{Run}
use Rattle.sedck_engines.proofs.Answering.{err_is}
use Rattle.sedck_cli.proofs.Ending.{report_answered, report_stopped}
use Rattle.sedck_cli.proofs.command_line.report.Goals as goal

pub returns-in_err-run_script-clause-leaves : goal.returns-in_err-run_script-clause-leaves
returns-in_err-run_script-clause-leaves g c =
    let why = c.in_err-run_script.field-0.0 in
    let is = err_is c.from_residual-in_err-run_script.result (Run why) c.from_residual-in_err-run_script.ensures.1 in
    rw is (report_stopped (g.O.Opener.known c.args.files.now) c.args.kind c.args.path.now _ _ why c.in_err-run_script.ensures
    (record { opened = c.in_ok-script.ensures.opened; bytes = c.in_ok-script.ensures.bytes; failing = λ failed. c.in_ok-script.ensures.failing c.run_script.new.script failed }))

pub returns-clause-leaves : goal.returns-clause-leaves
returns-clause-leaves g c =
    report_answered (g.O.Opener.known c.args.files.now) c.args.kind c.args.path.now _
    (record { before = g.W.Sink.taken c.args.out.now; after = g.W.Sink.taken c.run_script.new.out; failed = g.W.Sink.has_failed c.run_script.new.out })
    c.in_ok-run_script.field-0 c.in_ok-run_script.ensures
    (record { opened = c.in_ok-script.ensures.opened; bytes = c.in_ok-script.ensures.bytes; failing = λ failed. c.in_ok-script.ensures.failing c.run_script.new.script failed })
