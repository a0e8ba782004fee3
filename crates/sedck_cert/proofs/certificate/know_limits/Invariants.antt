use Rattle.sedck_cert.proofs.Common.{All, take, AreWithin}
use Rattle.sedck_cert.proofs.certificate.know_limits.Given as goal

abbrev pub invariant-loop-pair : goal.invariant-loop-pair
invariant-loop-pair l = All AreWithin (take l.pair-index l.ranks)
