use Rattle.sedck_cert.proofs.Common.{◌++◌, ◌≤◌, decimal}
use Rattle.sedck_cert.proofs.LineLemmas.{no_cut, next_by_line}
use Rattle.sedck_cert.proofs.reading.frame.next_count.Goals as goal

pub returns-in_err-next : goal.returns-in_err-next
returns-in_err-next c = rw c.from_residual.ensures (λ n most more cut. no_cut _ _ more c.in_err-next.ensures.text cut)

pub returns : goal.returns
returns c = next_by_line (λ n. n ≤ 4095)
    (λ n. c.args.word.now ++ decimal n) _ c.count.result _ _ c.in_ok-next.ensures.text c.in_ok-next.ensures.number c.count.ensures
