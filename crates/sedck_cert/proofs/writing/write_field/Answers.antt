use Rattle.sedck_cert.proofs.Written.{on_err, begins_longer}
use Rattle.sedck_cert.proofs.writing.write_field.Goals as goal

pub returns-in_err-write_decimal-clause-begun : goal.returns-in_err-write_decimal-clause-begun
returns-in_err-write_decimal-clause-begun g c = on_err c.from_residual.result _ (begins_longer _ _ _ _ (rw c.from.ensures at c.in_err-write_decimal.ensures.begun))
