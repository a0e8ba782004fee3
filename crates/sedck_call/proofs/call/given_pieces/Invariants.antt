use Rattle.std.proofs.Common.{◌≡◌, ◌++◌, drop, flat_map}
use Rattle.sedck_call.specs.Calls.{piece_of}
use Rattle.sedck_call.proofs.call.given_pieces.Given as goal

-- those so far
abbrev pub invariant-loop-item : goal.invariant-loop-item
invariant-loop-item l = l.pieces.items ++ flat_map piece_of (drop l.item-index l.given) ≡ flat_map piece_of l.given
