use Rattle.sedck_cert.proofs.Written.{written_fourth}
use Rattle.sedck_cli.proofs.LineParts.{script_parts}
use Rattle.sedck_cli.proofs.refusal_line.write_script_fault.Goals as goal

pub returns-clause-written : goal.returns-clause-written
returns-clause-written g c = written_fourth c.write_cause.result _ _ _ _ _ _ _ _ _ _
    (script_parts c.args.fault c.number.result c.name.result.now c.place.result c.number.ensures c.name.ensures c.place.ensures)
    c.in_ok-write_all.ensures.written c.in_ok-write_fault.ensures.written c.in_ok-write_place.ensures.written c.write_cause.ensures.written
