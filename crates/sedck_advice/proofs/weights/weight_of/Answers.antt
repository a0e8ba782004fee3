use Rattle.sedck_advice.proofs.Common.{◌∙◌, ◌++◌, ◌∷◌, [], map, take, sym, ap, command_of}
use Rattle.std.proofs.lemmas.List.{map_more}
use Rattle.sedck_advice.proofs.WeightLemmas.{weighs_more}
use Rattle.sedck_advice.proofs.weights.weight_of.Goals as goal

pub loop-command-preserved : goal.loop-command-preserved
loop-command-preserved c =
    let commands = c.args.commands.now in
    let i = c.loop-command.command-index in
    let before = map command_of (take i commands) in
    let one = map_more command_of commands i c.command-item.result c.loop-command-test.true
    ∙ ap (λ x. before ++ command_of x ∷ []) (sym c.command-item.is) in
    weighs_more before _ (command_of c.command-item.result) c.loop-command.weight c.weight_of_command-own.result _ one
    c.loop-command.invariant c.weight_of_command-own.ensures c.with-weight.ensures.repetition c.with-weight.ensures.items
