use Rattle.sedck_search.proofs.Common.{arith}
use Rattle.sedck_search.proofs.LaneCounts.{next_fits, next_are_sums, last_fits, whole_count, whole_fits}
use Rattle.sedck_search.proofs.rows.count_bits.Goals as goal

pub overflow_add-sums : goal.overflow_add-sums
overflow_add-sums c = next_fits c.args.words.now c.loop-at.sums c.loop-at.at c.requires c.type_inv.words c.loop-at.invariant

pub loop-at-preserved : goal.loop-at-preserved
loop-at-preserved c = next_are_sums c.args.words.now c.loop-at.sums c.loop-at.at c.requires c.type_inv.words c.loop-at.invariant
    (omega (arith, c.loop-at-test.true, c.loop-at.invariant.within))

pub overflow_add-result : goal.overflow_add-result
overflow_add-result c = last_fits c.args.words.now c.loop-at.sums c.loop-at.at c.requires c.type_inv.words c.loop-at.invariant

pub overflow_add-result-2 : goal.overflow_add-result-2
overflow_add-result-2 c =
    whole_fits c.args.words.now c.loop-at.sums c.loop-at.at c.requires c.type_inv.words c.loop-at.invariant c.count_each.result c.count_each.ensures

pub returns : goal.returns
returns c = whole_count c.args.words.now c.loop-at.sums c.loop-at.at c.requires c.type_inv.words c.loop-at.invariant c.count_each.result c.count_each.ensures
