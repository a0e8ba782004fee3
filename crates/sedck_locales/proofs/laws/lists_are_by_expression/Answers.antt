use Rattle.sedck_locales.proofs.ListLines.{by_expression}
use Rattle.sedck_locales.proofs.laws.lists_are_by_expression.Goals as goal

pub returns : goal.returns
returns c = by_expression
