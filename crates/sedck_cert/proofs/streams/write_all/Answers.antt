use Rattle.sedck_cert.proofs.Common.{◌∙◌}
use Rattle.sedck_cert.proofs.Written.{more_written}
use Rattle.sedck_cert.proofs.streams.write_all.Goals as goal

pub loop-rest-preserved : goal.loop-rest-preserved
loop-rest-preserved g c = (
  more_written _ _ _ _ _ c.in_ok-count.count c.loop-rest.invariant.0 c.in_ok-count.ensures.bytes,
  c.in_ok-count.ensures.failure ∙ c.loop-rest.invariant.1,
)
