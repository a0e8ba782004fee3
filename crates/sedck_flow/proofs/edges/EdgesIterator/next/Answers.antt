use Rattle.sedck_flow.proofs.Common.{map, sym, ap, ◌∙◌, edge_to, add-one}
use Rattle.sedck_flow.proofs.EdgesLemmas.{drop_next}
use Rattle.sedck_flow.proofs.edges.EdgesIterator.next.Goals as goal

pub returns-clause-steps : goal.returns-clause-steps
returns-clause-steps c =
    rw add-one
    (sym c.self.view_is
    ∙ ap (map (edge_to c.self.inside.from)) (drop_next c.self.inside.list c.self.inside.next c.get-kind.result c.get-kind.ensures))
