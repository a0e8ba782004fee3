use Rattle.sedck_expressions.proofs.Common.{◌≡◌, ◌≤◌, ◌+◌, min, drop, sum_by, references_by}
use Rattle.sedck_expressions.proofs.parts.are_two_to_nothing.Given as goal

abbrev pub invariant-loop-k : goal.invariant-loop-k
invariant-loop-k l =
    (l.total ≤ 2) × (min (l.total + sum_by (references_by l.parts) (drop l.k-index l.groups)) 2 ≡ min (sum_by (references_by l.parts) l.groups) 2)
