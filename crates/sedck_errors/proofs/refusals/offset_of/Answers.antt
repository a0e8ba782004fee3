use Rattle.std.proofs.Common.{ap, ◌∙◌}
use Rattle.std.specs.Prelude.{unwrap_or}
use Rattle.sedck_errors.proofs.Offsets.{fault_offset}
use Rattle.sedck_errors.proofs.refusals.offset_of.Goals as goal

pub returns-in-BadExpression : goal.returns-in-BadExpression
returns-in-BadExpression c =
    fault_offset c.args.text.now c.args.fault c.in-BadExpression.place c.in-BadExpression.fault c.unwrap_or.result c.offset_in_expression.result c.in-BadExpression.is c.requires.1
    (c.unwrap_or.ensures ∙ ap (λ o. unwrap_or o 0) c.place.ensures) c.offset_in_expression.ensures
