use Rattle.sedck_explain_cli.proofs.Common.{◌≡◌, ◌≢◌, false, map, take, Keeps, Accepted, Misused, Failed, Unknown, IsWorstOf, StatusAt}
use Rattle.sedck_explain_cli.proofs.command_line.explain_all.Given as goal

-- the status so far
abbrev pub invariant-loop-path : goal.invariant-loop-path
invariant-loop-path g l = record {
  within : l.session.request.now.mends ≡ false → l.status ≢ Unknown;
  known : l.status ≢ Misused;
  greatest : l.status ≢ Failed → IsWorstOf (StatusAt (g.O.Opener.known l.session.files.now) l.session.request.now) Accepted
      (map (λ path. path.now) (take l.path-index l.session.request.now.scripts.items)) l.status;
  silent : l.status ≢ Failed → Keeps (g.E.Sink.taken l.initial.err) (g.E.Sink.taken l.err);
}
