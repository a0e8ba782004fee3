use Rattle.sedck_cert.proofs.Common.{ℕ, refl, Stops}
use Rattle.sedck_cert.specs.Faults.{Node}
use Rattle.sedck_cert.proofs.LineLemmas.{stops_here, refused_or}
use Rattle.sedck_cert.proofs.DueLines.{wrong_node}
use Rattle.sedck_cert.proofs.reading.nodes.node_line.Goals as goal

pub returns-clause-refused : goal.returns-clause-refused
returns-clause-refused c = rw c.ok_or.ensures.value
    (refused_or (λ fault. (left : ℕ) → Stops c.args.version (Node c.args.node left) c.args.lines.now fault) _ c.next_ranks.result _ c.next_ranks.ensures (λ none left.
    stops_here c.args.version (Node c.args.node left) _ _ (wrong_node c.args.version c.args.node left _ none) refl))
