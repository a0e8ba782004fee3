use Rattle.std.proofs.Common.{◌≤◌}
use Rattle.std.specs.Prelude.{length}
use Rattle.sedck_plain.proofs.dollars.push_dollars.Given as goal

abbrev pub invariant-bytes : goal.invariant-bytes
invariant-bytes l = length l.rest ≤ length l.fn.text

abbrev pub decreases-bytes : goal.decreases-bytes
decreases-bytes l = length l.rest
