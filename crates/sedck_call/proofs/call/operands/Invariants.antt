use Rattle.std.proofs.Common.{◌≡◌, ◌++◌, drop, flat_map}
use Rattle.sedck_call.specs.Calls.{operand_of}
use Rattle.sedck_call.proofs.call.operands.Given as goal

-- those so far
abbrev pub invariant-loop-item : goal.invariant-loop-item
invariant-loop-item l = l.numbers.items ++ flat_map operand_of (drop l.item-index l.given) ≡ flat_map operand_of l.given
