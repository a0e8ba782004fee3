use Rattle.sedck_cert.proofs.Common.{◌≡◌, length}
use Rattle.sedck_cert.proofs.Written.{IsPartWritten}
use Rattle.sedck_cert.proofs.streams.write_all.Given as goal

abbrev pub invariant-loop-rest : goal.invariant-loop-rest
invariant-loop-rest g l = IsPartWritten (g.W.Sink.taken l.initial.out) (g.W.Sink.taken l.out) l.bytes l.rest
    × (g.W.Sink.has_failed l.out ≡ g.W.Sink.has_failed l.initial.out)

abbrev pub decreases-loop-rest : goal.decreases-loop-rest
decreases-loop-rest g l = length l.rest
