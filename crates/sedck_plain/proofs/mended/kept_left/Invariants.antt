use Rattle.std.proofs.Common.{List, ℕ, ◌≤◌, length}
use Rattle.sedck_plain.specs.Mended.{IsPartKept}
use Rattle.sedck_plain.proofs.mended.kept_left.Given as goal

abbrev pub invariant-bytes : goal.invariant-bytes
invariant-bytes l = ((rest left : List ℕ) → IsPartKept l.delimiter l.part l.text rest left → IsPartKept l.delimiter l.fn.part l.fn.text rest left)
    × (length l.part ≤ length l.fn.part)

abbrev pub decreases-bytes : goal.decreases-bytes
decreases-bytes l = length l.part
