use Rattle.sedck_search.proofs.Common.{inl, inr}
use Rattle.sedck_search.proofs.Counts.{closed_reach}
use Rattle.sedck_search.proofs.sets.find_reached.Goals as goal

pub returns-clause-reached : goal.returns-clause-reached
returns-clause-reached c =
    let grown = c.add_reached.ensures.grown in
    closed_reach c.args.graph.script.now c.args.graph.filter c.add_reached.new.reached c.add_reached.ensures.sets.0 c.add_reached.ensures.closed c.args.node grown.node
    (λ m x. elim (grown.reached m x) [ inl old ↦ c.start_from_target.ensures.reached m old | inr to ↦ to ])
