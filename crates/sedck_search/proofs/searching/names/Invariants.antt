use Rattle.sedck_search.proofs.Common.{◌≡◌, map, names_of}
use Rattle.std.specs.Prelude.{take}
use Rattle.sedck_search.proofs.searching.names.Given as goal

-- the names so far
abbrev pub invariant-loop-name : goal.invariant-loop-name
invariant-loop-name l = names_of l.copies.items ≡ map (λ name. name.now) (take l.name-index l.names)
