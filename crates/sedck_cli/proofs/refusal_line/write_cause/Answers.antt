use Rattle.sedck_cert.proofs.Written.{written_third}
use Rattle.sedck_cli.proofs.LineParts.{cause_parts}
use Rattle.sedck_cli.proofs.refusal_line.write_cause.Goals as goal

pub returns-clause-written : goal.returns-clause-written
returns-clause-written g c = rw c.in-BadExpression.is (written_third c.write_place.result _ _ _ _ _ _ _ _
    (cause_parts c.in-BadExpression.fault c.number.result c.name.result.now c.place.result c.number.ensures c.name.ensures c.place.ensures)
    c.in_ok-write_all.ensures.written c.in_ok-write_fault.ensures.written c.write_place.ensures.written)
