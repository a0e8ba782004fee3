use Rattle.sedck_flow.proofs.EdgeListLemmas.{adds_then}
use Rattle.sedck_flow.proofs.verbs.add_change_edges.Goals as goal

pub returns-in-Two-clause-edges : goal.returns-in-Two-clause-edges
returns-in-Two-clause-edges c = λ p text. rw c.in-Two.is
    (adds_then _ _ c.args.list.now c.add_line.new.self c.add.new.self (rw c.start.ensures at c.add_line.ensures.edges) (rw c.next.ensures at c.add.ensures.edges))

pub returns-in-One-clause-edges : goal.returns-in-One-clause-edges
returns-in-One-clause-edges c = λ p text. rw c.in-One.is (rw c.start.ensures at c.add_line.ensures.edges)

pub returns-in-None-clause-edges : goal.returns-in-None-clause-edges
returns-in-None-clause-edges c = λ p text. rw c.in-None.is (rw c.start.ensures at c.add_line.ensures.edges)
