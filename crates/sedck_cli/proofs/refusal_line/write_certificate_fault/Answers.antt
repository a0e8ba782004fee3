use Rattle.sedck_cert.proofs.Written.{written_third}
use Rattle.sedck_cli.proofs.LineParts.{certificate_parts}
use Rattle.sedck_cli.proofs.refusal_line.write_certificate_fault.Goals as goal

pub returns-clause-written : goal.returns-clause-written
returns-clause-written g c = written_third c.write_place.result _ _ _ _ _ _ _ _
    (certificate_parts c.args.fault c.number.result c.name.result.now c.line.result c.number.ensures c.name.ensures c.line.ensures)
    c.in_ok-write_all.ensures.written c.in_ok-write_fault.ensures.written c.write_place.ensures.written
