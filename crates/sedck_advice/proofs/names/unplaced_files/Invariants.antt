use Rattle.sedck_advice.proofs.Common.{◌≡◌, map, take, names_of}
use Rattle.sedck_advice.proofs.names.unplaced_files.Given as goal

abbrev pub invariant-loop-name : goal.invariant-loop-name
invariant-loop-name l = names_of l.files.items ≡ map (λ name. name.now) (take l.name-index l.names)
