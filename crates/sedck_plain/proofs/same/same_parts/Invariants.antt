use Rattle.std.proofs.Common.{◌≡◌, ◌↔◌, map, length}
use Rattle.sedck_script.specs.View.{part_of}
use Rattle.sedck_plain.proofs.same.same_parts.Given as goal

abbrev pub invariant-parts : goal.invariant-parts
invariant-parts l = (map part_of l.fn.one ≡ map part_of l.fn.other) ↔ (map part_of l.rest.0.now ≡ map part_of l.rest.1.now)

abbrev pub decreases-parts : goal.decreases-parts
decreases-parts l = length l.rest.0.now
