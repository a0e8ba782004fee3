use Rattle.sedck_cert.proofs.Common.{AreWithin, node_text}
use Rattle.sedck_cert.proofs.LineLemmas.{no_cut, next_by_line}
use Rattle.sedck_cert.proofs.reading.nodes.next_ranks.Goals as goal

pub returns-in_err-next : goal.returns-in_err-next
returns-in_err-next c = rw c.from_residual.ensures (λ ranks within more cut. no_cut _ _ more c.in_err-next.ensures.text cut)

pub returns : goal.returns
returns c = next_by_line AreWithin (node_text c.args.version c.args.node) _ c.node_ranks.result _ _ c.in_ok-next.ensures.text c.in_ok-next.ensures.number c.node_ranks.ensures
