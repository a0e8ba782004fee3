use Rattle.sedck_origin.proofs.Lengths.{untraced}
use Rattle.sedck_origin.proofs.origin.is_traced.Goals as goal

pub returns-then-bytes-origins : goal.returns-then-bytes-origins
returns-then-bytes-origins c = untraced c.args.file.now 0 c.args.bytes.now c.args.origins.now c.if-bytes-origins.true
