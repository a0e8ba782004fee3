use Rattle.sedck_advice.proofs.Common.{◌≡◌, map, names_of}
use Rattle.sedck_advice.proofs.names.named_files.Given as goal

abbrev pub invariant-loop-command : goal.invariant-loop-command
invariant-loop-command l = names_of l.files.items ≡ map (λ name. name.now) l.names
