use Rattle.std.proofs.Common.{◌≡◌, map, take}
use Rattle.sedck_find.specs.Told.{name_of}
use Rattle.sedck_find.proofs.told.names_of.Given as goal

-- those so far
abbrev pub invariant-loop-call : goal.invariant-loop-call
invariant-loop-call l = l.names.items ≡ map name_of (take l.call-index l.calls)
