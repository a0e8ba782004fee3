use Rattle.sedck_script.proofs.Common.{map, take, expressions, command_of, IsLeastOf}
use Rattle.sedck_script.proofs.expressions.least_of.Given as goal

-- what was found so far is the least of the commands so far
abbrev pub invariant-loop-command : goal.invariant-loop-command
invariant-loop-command l = IsLeastOf (expressions (map command_of (take l.command-index l.commands))) l.least
