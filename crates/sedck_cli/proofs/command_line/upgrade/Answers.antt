use Rattle.sedck_cli.specs.declared.command_line.Refusal.TheVariants.{Run}
use Rattle.sedck_engines.proofs.Answering.{err_is}
use Rattle.sedck_cli.proofs.Ending.{upgrade_answered, upgrade_stopped}
use Rattle.sedck_cli.proofs.command_line.upgrade.Goals as goal

pub returns-in_err-run_upgrade-clause-leaves : goal.returns-in_err-run_upgrade-clause-leaves
returns-in_err-run_upgrade-clause-leaves g c =
    let why = c.in_err-run_upgrade.field-0.0 in
    let is = err_is c.from_residual-in_err-run_upgrade.result (Run why) c.from_residual-in_err-run_upgrade.ensures.1 in
    rw is (upgrade_stopped (g.O.Opener.known c.args.files.now) c.args.path.now _ _ why c.in_err-run_upgrade.ensures
    (record { opened = c.in_ok-certificate.ensures.opened; bytes = c.in_ok-certificate.ensures.bytes; failing = λ failed. c.in_ok-certificate.ensures.failing c.run_upgrade.new.cert failed }))

pub returns-clause-leaves : goal.returns-clause-leaves
returns-clause-leaves g c =
    upgrade_answered (g.O.Opener.known c.args.files.now) c.args.path.now _
    (record { before = g.W.Sink.taken c.args.out.now; after = g.W.Sink.taken c.run_upgrade.new.out; failed = g.W.Sink.has_failed c.run_upgrade.new.out })
    c.in_ok-run_upgrade.field-0 c.in_ok-run_upgrade.ensures
    (record { opened = c.in_ok-certificate.ensures.opened; bytes = c.in_ok-certificate.ensures.bytes; failing = λ failed. c.in_ok-certificate.ensures.failing c.run_upgrade.new.cert failed })
