use Rattle.sedck_calls_in_files.proofs.Common.{map, take, Accepted, asked_of, PathStatus, IsWorstOf}
use Rattle.sedck_calls_in_files.proofs.walk.Walk.visit_all.Given as goal

-- the status of the paths so far
abbrev pub invariant-loop-path : goal.invariant-loop-path
invariant-loop-path g l =
    IsWorstOf (PathStatus (g.O.Opener.known l.self.files.now) (g.F.Finder.found l.self.finder.now) (asked_of l.self.scan.now)) Accepted
    (map (λ path. path.now) (take l.path-index l.self.scan.now.paths.now)) l.status
