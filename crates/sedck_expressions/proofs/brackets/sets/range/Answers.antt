use Rattle.sedck_expressions.proofs.Common.{is_from}
use Rattle.sedck_expressions.proofs.SetLemmas.{just_same, range_test}
use Rattle.sedck_expressions.proofs.brackets.sets.range.Goals as goal

pub returns : goal.returns
returns c = just_same c.complement-2.result.0 _ (is_from c.args.first c.args.last) (range_test c.args.first c.args.last)
    (c.complement-2.ensures _ (c.union.ensures _ _ (rw c.from.ensures at c.below.ensures) (c.complement.ensures _ (rw c.from-2.ensures at c.below-2.ensures))))
