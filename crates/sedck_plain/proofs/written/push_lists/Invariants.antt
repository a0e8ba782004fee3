use Rattle.std.proofs.Common.{◌≤◌, length}
use Rattle.sedck_plain.specs.Private.Cutting.{HasAdded}
use Rattle.sedck_plain.proofs.written.push_lists.Given as goal

abbrev pub invariant-bytes : goal.invariant-bytes
invariant-bytes l = HasAdded l.delimiter l.fn.text l.fn.lists.items l.lists.items l.position l.rest × (length l.rest ≤ length l.fn.text)

abbrev pub decreases-bytes : goal.decreases-bytes
decreases-bytes l = length l.rest
