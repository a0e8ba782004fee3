use Rattle.sedck_engines.proofs.Common.{refl}
use Rattle.sedck_engines.proofs.engines.write_report.Goals as goal

pub returns-in-Ok : goal.returns-in-Ok
returns-in-Ok g c = (refl, c.in-Ok.ensures.written)
