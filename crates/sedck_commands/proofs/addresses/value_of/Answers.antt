use Rattle.sedck_commands.proofs.Common.{◌∙◌, ap, min, ◌+◌, ◌*◌}
use Rattle.sedck_commands.proofs.NumberLemmas.{digits_more}
use Rattle.sedck_commands.proofs.addresses.value_of.Goals as goal

pub loop-digit-preserved : goal.loop-digit-preserved
loop-digit-preserved c =
    c.min-value.ensures ∙ ap (λ d. min (c.loop-digit.value * 10 + d) 4294967296) c.from.ensures
    ∙ digits_more c.args.digits.now c.loop-digit.digit-index c.loop-digit.value c.loop-digit-test.true c.requires c.loop-digit.invariant
