use Rattle.sedck_script.proofs.Common.{map, ◌∙◌, expressions, command_of}
use Rattle.sedck_script.proofs.ShortestLemmas.{some_has_least}
use Rattle.sedck_script.proofs.expressions.has_expression.Goals as goal

pub returns : goal.returns
returns c = c.is_some.ensures ∙ some_has_least (expressions (map command_of c.args.commands.now)) c.least_of.result c.least_of.ensures
