use Rattle.sedck_script.proofs.Common.{◌≡◌, map, take, command_of, all_accessed}
use Rattle.sedck_script.proofs.names.all_names.Given as goal

-- the names of the commands so far
abbrev pub invariant-loop-command : goal.invariant-loop-command
invariant-loop-command l = map (λ n. n.now) l.names.items ≡ all_accessed l.access (map command_of (take l.command-index l.commands))
