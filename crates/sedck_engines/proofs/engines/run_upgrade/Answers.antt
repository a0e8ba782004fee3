use Rattle.sedck_engines.proofs.Common.{Some, None, ◌∙◌, certificate_fault}
use Rattle.sedck_engines.proofs.Answering.{err_is, read_refused, upgrades_to, reported, sliced}
use Rattle.sedck_engines.proofs.engines.run_upgrade.Goals as goal

pub returns-in_err-cert : goal.returns-in_err-cert
returns-in_err-cert g c =
    let is = err_is c.from_residual-in_err-cert.result (certificate_fault c.in_err-cert.field-0.0) c.from_residual-in_err-cert.ensures.1 in
    let text = sliced 1572865 _ c.deref.result.now _ c.deref.ensures.value c.in_ok-text.ensures.read in
    rw is (read_refused _ _ _ _ _ c.deref.result.now _ text c.in_err-cert.ensures.refused)

pub returns : goal.returns
returns g c =
    let text = sliced 1572865 _ c.deref.result.now _ c.deref.ensures.value c.in_ok-text.ensures.read in
    let cert = c.in_ok-cert.ensures in
    let report = c.deref-2.ensures.value ∙ c.in_ok-report.ensures in
    reported None (Some _) _ _ _ c.deref-2.result.now _ (rw report (upgrades_to _ _ _ text cert.read cert.only)) c.write_report.ensures
