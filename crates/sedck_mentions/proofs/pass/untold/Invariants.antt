use Rattle.std.proofs.Common.{◌≡◌, filter, map}
use Rattle.std.specs.List.{range_with_len}
use Rattle.sedck_mentions.specs.Told.{is_untold_at}
use Rattle.sedck_mentions.specs.Private.Pass.{line_at, end_below, place_span}
use Rattle.sedck_mentions.proofs.pass.untold.Given as goal

-- those before the offset, and what is known there
abbrev pub invariant-loop-offset : goal.invariant-loop-offset
invariant-loop-offset l = record {
  offsets : l.offsets.items ≡ filter (is_untold_at l.has_macros l.file l.names l.places) (range_with_len 0 l.offset);
  line : l.line ≡ line_at l.has_macros l.file l.offset;
  named : l.named ≡ end_below l.offset l.names;
  told : l.told ≡ end_below l.offset (map place_span l.places);
}
