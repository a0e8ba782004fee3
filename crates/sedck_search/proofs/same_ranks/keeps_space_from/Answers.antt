use Rattle.sedck_search.proofs.Scans.{scan_next, scan_more, scan_end}
use Rattle.sedck_search.proofs.same_ranks.keeps_space_from.Goals as goal

pub loop-edge-preserved : goal.loop-edge-preserved
loop-edge-preserved c =
    scan_more (scan_next c.in-Some.ensures.steps c.loop-edge.invariant) (λ f h. h) c.if-not-keeps_or_reads.ensures

pub returns : goal.returns
returns c = scan_end c.in-None.ensures.steps.0 c.loop-edge.invariant
