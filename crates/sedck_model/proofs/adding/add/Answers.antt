use Rattle.sedck_model.proofs.Common.{get_or, subst, Contains}
use Rattle.sedck_model.proofs.SameSpots.{same_spot}
use Rattle.sedck_model.proofs.ListLemmas.{Adds-kept}
use Rattle.sedck_model.proofs.adding.add.Goals as goal

pub returns-else-not-contains-clause-added : goal.returns-else-not-contains-clause-added
returns-else-not-contains-clause-added c =
    let found = c.if-not-contains.ensures.cases in
    let spot = c.args.spot in
    let there : Contains c.deref.result.now spot = (found.0, found.1, same_spot (get_or c.deref.result.now found.0 spot) spot (found.2 spot)) in
    Adds-kept c.args.spots.now.items spot (subst (λ xs. Contains xs spot) c.deref.ensures.value there)
