use Rattle.sedck_engines.proofs.Common.{Some, None, script_fault}
use Rattle.sedck_cert.proofs.Promise.{script_reported}
use Rattle.sedck_engines.proofs.Answering.{err_is, parse_refused, reports_script_to, reported, sliced}
use Rattle.sedck_engines.proofs.engines.run_script.Goals as goal

pub returns-in_err-script : goal.returns-in_err-script
returns-in_err-script g c =
    let is = err_is c.from_residual-in_err-script.result (script_fault c.in_err-script.field-0.0) c.from_residual-in_err-script.ensures.1 in
    let text = sliced 1048577 _ c.deref.result.now _ c.deref.ensures.value c.in_ok-text.ensures.read in
    let script = c.in_err-script.ensures in
    rw is (parse_refused _ _ _ _ _ c.deref.result.now _ text script.refused
    (script_reported c.deref.result.now _ script.first script.placed script.too_long script.zero))

pub returns : goal.returns
returns g c =
    let text = sliced 1048577 _ c.deref.result.now _ c.deref.ensures.value c.in_ok-text.ensures.read in
    let script = c.in_ok-script.ensures in
    reported (Some _) None _ _ _ c.deref-2.result.now _
    (rw c.deref-2.ensures.value (reports_script_to c.args.kind _ _ _ _ _ text script.spelled script.only c.in_ok-report.ensures))
    c.write_report.ensures
