use Rattle.std.proofs.Common.{◌≡◌, flat_map, take, string_bytes}
use Rattle.sedck_report.specs.Shown.{shown_in_name}
use Rattle.sedck_report.proofs.shown.shown_name.Given as goal

abbrev pub invariant-loop-byte : goal.invariant-loop-byte
invariant-loop-byte l = string_bytes l.shown ≡ flat_map shown_in_name (take l.byte-index l.bytes)
