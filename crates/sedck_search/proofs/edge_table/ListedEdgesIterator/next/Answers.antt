use Rattle.sedck_search.proofs.Common.{add-one, sym, ◌∙◌, drop_next}
use Rattle.sedck_search.proofs.edge_table.ListedEdgesIterator.next.Goals as goal

pub returns-clause-steps : goal.returns-clause-steps
returns-clause-steps c =
    rw add-one (sym c.self.view_is ∙ drop_next c.self.inside.edges.now c.self.inside.next c.edge_at-edge.result c.edge_at-edge.ensures)
