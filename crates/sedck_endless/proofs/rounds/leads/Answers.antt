use Rattle.sedck_model.specs.States.{state_of}
use Rattle.sedck_model.proofs.RunLemmas.{steps_more, here_after}
use Rattle.sedck_endless.proofs.rounds.leads.Goals as goal

pub loop-next-preserved : goal.loop-next-preserved
loop-next-preserved c = record {
  goes = steps_more c.args.script.now (state_of c.args.from) c.args.steps.now c.loop-next.next-index _ (state_of c.loop-next.before) c.loop-next-test.true
      c.loop-next.invariant.goes c.loop-next.invariant.here (c.in_ok-step.ensures.decided.0 c.if-not-branch.false);
  here = here_after (state_of c.args.from) c.args.steps.now c.loop-next.next-index _ c.loop-next-test.true;
}
