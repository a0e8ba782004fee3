use Rattle.sedck_model.proofs.Common.{◌≡◌, map, take, expressions, command_of, trees_in}
use Rattle.sedck_model.proofs.candidates.all_of.Given as goal

-- what was found so far are the expressions of the commands so far
abbrev pub invariant-loop-command : goal.invariant-loop-command
invariant-loop-command l = trees_in l.found.items ≡ expressions (map command_of (take l.command-index l.commands))
