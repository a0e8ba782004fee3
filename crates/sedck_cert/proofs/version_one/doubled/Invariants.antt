use Rattle.sedck_cert.proofs.Common.{◌≡◌, take, doubled}
use Rattle.sedck_cert.proofs.version_one.doubled.Given as goal

-- the entries so far
abbrev pub invariant-loop-pair : goal.invariant-loop-pair
invariant-loop-pair l = l.both.items ≡ doubled (take l.pair-index l.ranks)
