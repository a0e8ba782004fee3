use Rattle.sedck_search.proofs.Common.{◌+◌, arith}
use Rattle.sedck_search.proofs.Totals.{bit_count-within, bit_count-more, bit_count-take}
use Rattle.sedck_search.proofs.rows.count_each.Goals as goal

pub overflow_add-count : goal.overflow_add-count
overflow_add-count c =
    let more = bit_count-more c.args.words.now c.loop-word.word-index c.loop-word-test.true in
    let few = bit_count-take c.args.words.now (c.loop-word.word-index + 1) in
    let most = bit_count-within c.args.words.now c.type_inv.words in
    record { fits = omega (arith, more, few, most, c.from-count.ensures, c.loop-word.invariant, c.requires) }

pub loop-word-preserved : goal.loop-word-preserved
loop-word-preserved c =
    let more = bit_count-more c.args.words.now c.loop-word.word-index c.loop-word-test.true in
    omega (arith, more, c.from-count.ensures, c.loop-word.invariant)
