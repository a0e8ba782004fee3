use Rattle.sedck_cert.proofs.Written.{on_err, begins_longer}
use Rattle.sedck_cert.proofs.writing.write_line.Goals as goal

pub returns-in_err-write_all-clause-begun : goal.returns-in_err-write_all-clause-begun
returns-in_err-write_all-clause-begun g c = on_err c.from_residual.result _ (begins_longer _ _ _ _ c.in_err-write_all.ensures.begun)
