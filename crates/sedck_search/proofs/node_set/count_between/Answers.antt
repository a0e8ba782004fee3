use Rattle.sedck_search.proofs.Common.{◌∙◌, arith}
use Rattle.sedck_search.proofs.Totals.{bit_count-between}
use Rattle.sedck_search.proofs.node_set.count_between.Goals as goal

pub returns : goal.returns
returns c = λ h k. c.count_bits.ensures ∙ bit_count-between c.args.words.now c.min-start.result c.args.end (omega (arith, c.min-start.ensures))
    (λ j less. h j (omega (arith, less, c.min-start.ensures))) k
