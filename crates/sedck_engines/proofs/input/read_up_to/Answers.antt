use Rattle.sedck_engines.proofs.Common.{◌<◌, ◌≤◌, length, vec_len, arith, Consumes-trans}
use Rattle.std.proofs.lemmas.Grind.{common_steps}
use Rattle.sedck_engines.proofs.Inputs.{read_to_limit, read_to_end}
use Rattle.sedck_engines.proofs.input.read_up_to.Goals as goal
use Rattle.sedck_engines.proofs.input.read_up_to.Goals.{else-loop-input-test, then-loop-input-test+in-Ok+then-count-eq0}

pub loop-input-preserved : goal.loop-input-preserved
loop-input-preserved g c =
    let items = c.in_ok-extend_from_slice.ensures.items in
    let within : vec_len c.extend_from_slice.new.self ≤ c.args.limit =
    grind (arith, common_steps, c.in_ok-extend_from_slice.ensures.len, c.in-Ok.ensures.bound) in
    (rw items (Consumes-trans _ _ _ _ _ c.loop-input.invariant.0 c.in-Ok.ensures.bytes.0), within, c.loop-input.invariant.2)

pub returns-clause-read : goal.returns-clause-read
returns-clause-read g c = record {
  prefix = elim c.loop-input-test.branch [
    | else-loop-input-test w ↦ read_to_limit _ (g.S.Source.left c.loop-input.source) _ _ c.loop-input.invariant.0 (omega (arith, c.loop-input.bytes.ok.0))
    | then-loop-input-test+in-Ok+then-count-eq0 w ↦
        let room : 0 < length w.read.new.buf = grind (arith, common_steps, w.min-room.ensures) in
        let read = w.in-Ok.ensures.bytes in
        read_to_end _ (g.S.Source.left c.loop-input.source)
        (g.S.Source.left w.read.new.self) _ w.read.new.buf w.in-Ok.count _ c.loop-input.invariant.0 read.0 w.if-count-eq0.true
        (read.1 w.if-count-eq0.true room) (omega (arith, c.loop-input.bytes.ok.0))
  ];
  within = omega (arith, c.loop-input.invariant.1, c.loop-input.bytes.ok.0);
}
