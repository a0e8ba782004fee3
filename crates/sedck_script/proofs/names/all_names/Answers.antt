use Rattle.sedck_script.proofs.Common.{◌++◌, ◌∙◌, ap₂}
use Rattle.sedck_script.proofs.NameLemmas.{names_more}
use Rattle.sedck_script.proofs.names.all_names.Goals as goal

pub loop-command-preserved : goal.loop-command-preserved
loop-command-preserved c =
    c.in_ok-push_any.ensures.ok
    ∙ ap₂ (λ before more. before ++ more) c.loop-command.invariant c.name_of.ensures
    ∙ names_more c.args.access c.args.commands.now c.loop-command.command-index c.command-item.result c.loop-command-test.true c.command-item.is
