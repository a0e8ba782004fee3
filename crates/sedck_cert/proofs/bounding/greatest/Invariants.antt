use Rattle.sedck_cert.proofs.Common.{◌≡◌, take, greatest_first, greatest_second}
use Rattle.sedck_cert.proofs.bounding.greatest.Given as goal

-- the greatest ranks so far
abbrev pub invariant-loop-pair : goal.invariant-loop-pair
invariant-loop-pair l = (l.first ≡ greatest_first (take l.pair-index l.ranks)) × (l.second ≡ greatest_second (take l.pair-index l.ranks))
