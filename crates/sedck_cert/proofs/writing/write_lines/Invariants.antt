use Rattle.sedck_cert.proofs.Common.{◌≡◌, take, map, Appends, joined_lines}
use Rattle.sedck_cert.proofs.writing.write_lines.Given as goal

-- the names so far were taken
abbrev pub invariant-loop-name : goal.invariant-loop-name
invariant-loop-name g l =
    Appends (g.W.Sink.taken l.initial.out) (g.W.Sink.taken l.out) (joined_lines (map g.N.AsSlice.items (take l.name-index l.names)))
    × (g.W.Sink.has_failed l.out ≡ g.W.Sink.has_failed l.initial.out)
