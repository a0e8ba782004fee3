use Rattle.sedck_engines.specs.Engines.{Writing}
use Rattle.sedck_c.proofs.Judging.{engine_finds, engine_refuses}
use Rattle.sedck_c.proofs.certified.searched.Goals as goal

pub returns-clause-found : goal.returns-clause-found
returns-clause-found g c =
    let out : Writing = record {
      before = g.W.Sink.taken c.args.out.now;
      after = g.W.Sink.taken c.run_rank.new.out;
      failed = g.W.Sink.has_failed c.run_rank.new.out;
    } in
    engine_finds (g.R.Source.left c.args.script.now) (g.R.Source.has_failed c.run_rank.new.script) out c.run_rank.result c.run_rank.ensures

pub returns-clause-refused : goal.returns-clause-refused
returns-clause-refused g c =
    let out : Writing = record {
      before = g.W.Sink.taken c.args.out.now;
      after = g.W.Sink.taken c.run_rank.new.out;
      failed = g.W.Sink.has_failed c.run_rank.new.out;
    } in
    engine_refuses (g.R.Source.left c.args.script.now) (g.R.Source.has_failed c.run_rank.new.script) out c.run_rank.result c.run_rank.ensures
