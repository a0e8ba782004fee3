use Rattle.sedck_engines.proofs.Common.{Some, run_fault}
use Rattle.sedck_engines.proofs.Answering.{err_is, judge_refused, checks_to, reported, sliced}
use Rattle.sedck_engines.proofs.engines.run_check.Goals as goal

pub returns-in_err-judged : goal.returns-in_err-judged
returns-in_err-judged g c =
    let is = err_is c.from_residual-in_err-judged.result (run_fault c.in_err-judged.field-0.0) c.from_residual-in_err-judged.ensures.1 in
    let text = sliced 1048577 _ c.deref.result.now _ c.deref.ensures.value c.in_ok-text.ensures.read in
    let bytes = sliced 1572865 _ c.deref-2.result.now _ c.deref-2.ensures.value c.in_ok-certificate.ensures.read in
    let judged = c.in_err-judged.ensures in
    rw is (judge_refused _ _ _ _ _ _ _ c.deref.result.now c.deref-2.result.now _ text bytes judged.answer judged.reported)

pub returns : goal.returns
returns g c =
    let text = sliced 1048577 _ c.deref.result.now _ c.deref.ensures.value c.in_ok-text.ensures.read in
    let bytes = sliced 1572865 _ c.deref-2.result.now _ c.deref-2.ensures.value c.in_ok-certificate.ensures.read in
    reported (Some _) (Some _) _ _ _ c.deref-3.result.now _
    (rw (c.deref-3.ensures.value, c.outcome_of.ensures)
    (checks_to _ _ _ _ c.in_ok-judged.judged _ text bytes c.in_ok-judged.ensures.judged c.in_ok-report.ensures))
    c.write_report.ensures
