use Rattle.std.proofs.Common.{◌≡◌, ◌≤◌, ◌+◌, ◌-◌, drop, length}
use Rattle.sedck_call.specs.Words.{name_length as length_of}
use Rattle.sedck_call.proofs.given.name_length.Given as goal

-- none of the bytes so far is `=`
abbrev pub invariant-loop-length : goal.invariant-loop-length
invariant-loop-length l = record {
  within : l.length ≤ length l.text;
  value : l.length + length_of (drop l.length l.text) ≡ length_of l.text;
}

abbrev pub decreases-loop-length : goal.decreases-loop-length
decreases-loop-length l = length l.text - l.length
