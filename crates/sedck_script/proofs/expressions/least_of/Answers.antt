use Rattle.sedck_script.proofs.ShortestLemmas.{command_more}
use Rattle.sedck_script.proofs.expressions.least_of.Goals as goal

pub loop-command-preserved : goal.loop-command-preserved
loop-command-preserved c =
    command_more c.args.commands.now c.loop-command.command-index c.command-item.result c.loop-command.least c.least_of_address.result
    c.least_of_verb.result c.lesser-own.result c.lesser-least.result c.loop-command-test.true c.command-item.is c.lesser-own.ensures
    c.lesser-least.ensures c.loop-command.invariant c.least_of_address.ensures c.least_of_verb.ensures
