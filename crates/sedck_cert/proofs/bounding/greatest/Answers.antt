use Rattle.sedck_cert.proofs.Common.{None, Some, ◌∙◌, arith}
use Rattle.sedck_cert.proofs.BoundingLemmas.{ord_max-max, greatest_more}
use Rattle.sedck_cert.proofs.bounding.greatest.Goals.{in-Some, in_default}
use Rattle.sedck_cert.proofs.bounding.greatest.Goals as goal

-- one node more
pub loop-pair-preserved : goal.loop-pair-preserved
loop-pair-preserved c = elim c.match-pair.branch [
  | in-Some w ↦ (
    let more = greatest_more (λ r. r.0) c.args.ranks.now c.loop-pair.pair-index (Some (w.in-Some.one, w.in-Some.two)) c.loop-pair-test.true w.in-Some.is in
        omega (arith, more, w.first-is, w.max-first.ensures ∙ ord_max-max c.loop-pair.first w.in-Some.one),
    let more = greatest_more (λ r. r.1) c.args.ranks.now c.loop-pair.pair-index (Some (w.in-Some.one, w.in-Some.two)) c.loop-pair-test.true w.in-Some.is in
        omega (arith, more, w.second-is, w.max-second.ensures ∙ ord_max-max c.loop-pair.second w.in-Some.two),
  )
  | in_default w ↦ (
    omega (arith, greatest_more (λ r. r.0) c.args.ranks.now c.loop-pair.pair-index None c.loop-pair-test.true w.in_default.is, w.first-is),
    omega (arith, greatest_more (λ r. r.1) c.args.ranks.now c.loop-pair.pair-index None c.loop-pair-test.true w.in_default.is, w.second-is),
  )
]
