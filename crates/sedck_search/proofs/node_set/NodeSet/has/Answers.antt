use Rattle.sedck_search.proofs.Common.{◌/◌, ◌%◌, ap, ◌∙◌, ◌==◌, slice_index, shr_and_one}
use Rattle.sedck_search.specs.Private.NodeSet.{has}
use Rattle.sedck_search.proofs.node_set.NodeSet.has.Goals as goal

pub returns-clause-value : goal.returns-clause-value
unfolding has
returns-clause-value c = ap (λ m. m == 1) (shr_and_one (slice_index c.self.inside.words (c.args.node / 64)) (c.args.node % 64))
    ∙ ap (λ m. has m c.args.node) c.self.view_is
