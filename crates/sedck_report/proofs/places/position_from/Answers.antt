use Rattle.std.proofs.Common.{take}
use Rattle.sedck_report.proofs.Lines.{line_within}
use Rattle.sedck_report.proofs.places.position_from.Goals as goal

pub after-position-requires-clause-lines : goal.after-position-requires-clause-lines
after-position-requires-clause-lines c = rw c.loop-index.invariant (line_within (take c.loop-index.index c.args.text.now))
