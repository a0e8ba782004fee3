use Rattle.sedck_advice.proofs.Common.{map, take, command_of, WeighsAll}
use Rattle.sedck_advice.proofs.weights.weight_of.Given as goal

abbrev pub invariant-loop-command : goal.invariant-loop-command
invariant-loop-command l = WeighsAll (map command_of (take l.command-index l.commands)) l.weight
