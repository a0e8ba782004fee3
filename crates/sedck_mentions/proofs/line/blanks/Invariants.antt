use Rattle.std.proofs.Common.{◌≡◌, ◌≤◌, ◌+◌, ◌-◌, drop, length}
use Rattle.std.specs.List.{prefix_len}
use Rattle.sedck_mentions.specs.Lines.{is_blank as is_blank_byte}
use Rattle.sedck_mentions.proofs.line.blanks.Given as goal

-- all so far are blanks
abbrev pub invariant-loop-count : goal.invariant-loop-count
invariant-loop-count l = record {
  within : l.count ≤ length l.text;
  value : l.count + prefix_len is_blank_byte (drop l.count l.text) ≡ prefix_len is_blank_byte l.text;
}

abbrev pub decreases-loop-count : goal.decreases-loop-count
decreases-loop-count l = length l.text - l.count
