use Rattle.sedck_cert.proofs.Written.{on_err, begins_first, written_last, begun_last}
use Rattle.sedck_cert.proofs.Pieces.{head_pieces}
use Rattle.sedck_cert.proofs.writing.write_head.Goals as goal

pub returns-in_err-write_all-clause-begun : goal.returns-in_err-write_all-clause-begun
returns-in_err-write_all-clause-begun g c = on_err c.from_residual.result _
    (begins_first _ _ _ _ _ (head_pieces c.args.commands) c.in_err-write_all.ensures.begun)

pub returns-clause-written : goal.returns-clause-written
returns-clause-written g c = written_last c.write_field.result _ _ _ _ _ _
    (head_pieces c.args.commands) c.in_ok-write_all.ensures.written c.write_field.ensures.written

pub returns-clause-begun : goal.returns-clause-begun
returns-clause-begun g c = begun_last c.write_field.result _ _ _ _ _ _
    (head_pieces c.args.commands) c.in_ok-write_all.ensures.written c.write_field.ensures.begun
