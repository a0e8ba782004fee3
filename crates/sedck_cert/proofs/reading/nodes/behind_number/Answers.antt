use Rattle.sedck_cert.proofs.Common.{sym, ◌∙◌, arith, decimal_injective}
use Rattle.sedck_cert.proofs.CutLemmas.{has_byte, front_of_number}
use Rattle.sedck_cert.proofs.reading.nodes.behind_number.Goals as goal

-- no space
pub returns-in_err-front : goal.returns-in_err-front
returns-in_err-front c = rw c.from_residual.ensures (λ rest is. c.in_err-front.ensures (has_byte 32 _ _ rest is))

-- no number of at most this in front of it
pub returns-in_err-number : goal.returns-in_err-number
returns-in_err-number c = rw c.from_residual-in_err-number.ensures (λ rest is.
    c.in_err-number.ensures c.args.wanted (omega arith) (front_of_number _ _ _ rest c.args.wanted (omega arith) c.in_ok-front.ensures is))

-- another number
pub returns-else-branch-wanted : goal.returns-else-branch-wanted
returns-else-branch-wanted c rest is =
    c.if-branch-wanted.false
    (decimal_injective _ _ (omega (arith, c.in_ok-number.ensures.0)) (omega arith)
    (sym c.in_ok-number.ensures.1 ∙ front_of_number _ _ _ rest c.args.wanted (omega arith) c.in_ok-front.ensures is))
