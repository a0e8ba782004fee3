use Rattle.sedck_calls_in_files.proofs.Common.{on_ok, asked_of}
use Rattle.sedck_calls_in_files.proofs.Contents.{held_status}
use Rattle.sedck_calls_in_files.proofs.walk.Walk.visit_path.Goals as goal

pub returns : goal.returns
returns g c = on_ok _ _ c.explain.result
    (λ status has. held_status (g.O.Opener.known c.args.self.now.files.now) (g.F.Finder.found c.args.self.now.finder.now) (asked_of c.args.self.now.scan.now)
    c.args.path.now c.in_ok-contents.contents status c.in_ok-contents.ensures has) c.explain.ensures
