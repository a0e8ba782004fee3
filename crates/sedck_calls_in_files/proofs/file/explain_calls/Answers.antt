use Rattle.sedck_calls_in_files.proofs.Common.{sym, subst, take, ◌+◌, worse, asked_of, IsSaidOfFound, IsWorst}
use Rattle.sedck_calls_in_files.proofs.Worst.{next_worst}
use Rattle.sedck_calls_in_files.proofs.file.explain_calls.Goals as goal

pub loop-call-preserved : goal.loop-call-preserved
loop-call-preserved g c =
    let text = c.args.asked.now.file.text.now in
    let calls = c.args.calls.now in
    let asked = asked_of c.args.asked.now.scan.now in
    let i = c.loop-call.call-index in
    let e = c.in_ok-explanation.explanation in
    let said = subst (λ found. IsSaidOfFound text asked found e) c.call-item.is c.in_ok-explanation.ensures.said in (
      subst (IsWorst text asked c.args.known (take (i + 1) calls)) {x = worse c.loop-call.status e.status} (sym {b = worse c.loop-call.status e.status} c.worse-status.ensures)
          (next_worst text asked c.args.known calls i c.call-item.result c.loop-call.status e c.loop-call-test.true c.loop-call.invariant.0 said),
      c.call_position-position.ensures,
    )
