use Rattle.sedck_flow.proofs.EdgeListLemmas.{adds_both}
use Rattle.sedck_flow.proofs.edge_list.EdgeList.add_line.Goals as goal

pub returns-clause-edges : goal.returns-clause-edges
returns-clause-edges c =
    adds_both c.args.from c.args.to c.args.self.now c.add.new.self c.add-2.new.self c.if-from.false
    (rw c.with_last.ensures at c.add.ensures.edges) (rw c.with_last-2.ensures at c.add-2.ensures.edges)
