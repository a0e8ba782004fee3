use Rattle.std.proofs.Common.{◌≡◌, drop}
use Rattle.std.specs.List.{list_any}
use Rattle.sedck_origin.specs.Traced.{is_hole, has_hole as has_hole_of}
use Rattle.sedck_origin.proofs.origin.has_hole.Given as goal

-- none so far
abbrev pub invariant-loop-origin : goal.invariant-loop-origin
invariant-loop-origin l = list_any is_hole (drop l.origin-index l.origins) ≡ has_hole_of l.origins
