use Rattle.std.proofs.Common.{List, ℕ, ◌≤◌, length}
use Rattle.sedck_plain.specs.Mended.{IsPartGiven}
use Rattle.sedck_plain.specs.declared.written.Position.TheVariants.{Outside}
use Rattle.sedck_plain.proofs.mended.part_left.Given as goal

abbrev pub invariant-bytes : goal.invariant-bytes
invariant-bytes l = ((rest left : List ℕ) → IsPartGiven l.lists l.given l.other l.position l.part l.text rest left
    → IsPartGiven l.lists l.given l.other Outside l.fn.part l.fn.text rest left) × (length l.part ≤ length l.fn.part)

abbrev pub decreases-bytes : goal.decreases-bytes
decreases-bytes l = length l.part
