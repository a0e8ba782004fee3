use Rattle.sedck_search.proofs.Common.{◌-◌, length}
use Rattle.sedck_search.proofs.LaneCounts.{AreSums}
use Rattle.sedck_search.proofs.rows.count_bits.Given as goal

abbrev pub invariant-loop-at : goal.invariant-loop-at
invariant-loop-at l = AreSums l.words l.sums l.at

abbrev pub decreases-loop-at : goal.decreases-loop-at
decreases-loop-at l = length l.words - l.at
