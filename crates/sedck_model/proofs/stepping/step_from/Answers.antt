use Rattle.sedck_model.proofs.StepLemmas.{command_at, command_behind}
use Rattle.sedck_model.proofs.stepping.step_from.Goals as goal

pub returns-then-before-commands-clause-decided : goal.returns-then-before-commands-clause-decided
returns-then-before-commands-clause-decided c =
    rw (command_behind c.args.script.now.commands c.commands-commands.result.now c.args.before.now.at c.commands-commands.ensures.commands c.if-before-commands.true)
    c.step_past.ensures

pub returns-clause-decided : goal.returns-clause-decided
returns-clause-decided c =
    rw (command_at c.args.script.now.commands c.commands-commands.result.now c.args.before.now.at c.index-commands-before.result
    c.commands-commands.ensures.commands c.if-before-commands.false c.index-commands-before.is)
    c.step_at.ensures.decided
