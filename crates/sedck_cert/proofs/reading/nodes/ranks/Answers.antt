use Rattle.sedck_cert.proofs.CutLemmas.{ranks_parts}
use Rattle.sedck_cert.proofs.reading.nodes.ranks.Goals as goal

pub returns-in_err-number : goal.returns-in_err-number
returns-in_err-number c = rw c.from_residual-in_err-number.ensures (λ ranks within is.
    let p = ranks_parts _ _ _ ranks within c.in_ok-first.ensures is in
    c.in_err-number.ensures p.0 p.2 p.4)

pub returns-in_err-number-2 : goal.returns-in_err-number-2
returns-in_err-number-2 c = rw c.from_residual-in_err-number-2.ensures (λ ranks within is.
    let p = ranks_parts _ _ _ ranks within c.in_ok-first.ensures is in
    c.in_err-number-2.ensures p.1 p.3 p.5)
