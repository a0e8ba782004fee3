use Rattle.std.proofs.Common.{◌≡◌, ◌++◌, take, map, flat_map}
use Rattle.sedck_call.specs.Scripts.{on_new_line}
use Rattle.sedck_call.proofs.script.joined.Given as goal

-- the parts so far
abbrev pub invariant-loop-part : goal.invariant-loop-part
invariant-loop-part l = l.text.items ≡ l.initial.text.items ++ flat_map on_new_line (take l.part-index (map (λ part. part.items) l.more))
