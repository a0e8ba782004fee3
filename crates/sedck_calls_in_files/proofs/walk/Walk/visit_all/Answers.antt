use Rattle.sedck_calls_in_files.proofs.Common.{◌+◌, map, take, sym, subst, worse, Accepted, asked_of, PathStatus, IsWorstOf}
use Rattle.sedck_calls_in_files.proofs.Worst.{next_path}
use Rattle.sedck_calls_in_files.proofs.walk.Walk.visit_all.Goals as goal

pub loop-path-preserved : goal.loop-path-preserved
loop-path-preserved g c =
    let Has = PathStatus (g.O.Opener.known c.args.self.now.files.now) (g.F.Finder.found c.args.self.now.finder.now) (asked_of c.args.self.now.scan.now) in
    let paths = c.args.self.now.scan.now.paths.now in
    let i = c.loop-path.path-index in
    subst (IsWorstOf Has Accepted (map (λ path. path.now) (take (i + 1) paths))) {x = worse c.loop-path.status c.in_ok-one.one} (sym {b = worse c.loop-path.status c.in_ok-one.one} c.worse-status.ensures)
    (next_path Has (λ path. path.now) paths i _ c.loop-path.status c.in_ok-one.one c.loop-path-test.true c.loop-path.invariant c.in_ok-one.ensures)
