use Rattle.sedck_calls_in_files.proofs.Common.{◌≡◌}
use Rattle.std.proofs.Common.{drop}
use Rattle.sedck_calls_in_files.specs.Judged.{has_set_from as has_set_byte_from}
use Rattle.sedck_calls_in_files.proofs.values.has_set_from.Given as goal

-- what is left decides
abbrev pub invariant-loop-index : goal.invariant-loop-index
invariant-loop-index l =
    has_set_byte_from l.assumed (drop l.index l.origins) (drop l.index l.bytes) ≡ has_set_byte_from l.assumed l.origins l.bytes
