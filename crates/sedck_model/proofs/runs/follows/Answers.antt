use Rattle.sedck_model.proofs.Common.{[], ◌∷◌, arith, sym, ◌∙◌, false≢true, lines_of, state_of}
use Rattle.sedck_flow.specs.Run as model
use Rattle.sedck_model.proofs.RunLemmas.{steps_more, here_after, first_wrong}
use Rattle.sedck_model.proofs.runs.follows.Goals as goal

pub returns-then-not-branch-clause-decided : goal.returns-then-not-branch-clause-decided
returns-then-not-branch-clause-decided c =
    first_wrong c.args.script.now (lines_of c.args.lines.now) c.args.steps.now c.loop-i.i _ (state_of c.loop-i.before) c.loop-i-test.true
    c.loop-i.invariant.run c.loop-i.invariant.here (λ step. false≢true (sym c.if-not-branch.true ∙ c.in_ok-step.ensures.decided.1 step))

pub loop-i-preserved : goal.loop-i-preserved
loop-i-preserved c = record {
  spent = omega (arith, c.step.ensures.spent, c.loop-i.invariant.spent);
  run = steps_more c.args.script.now (model.Start (lines_of c.args.lines.now ∷ [])) c.args.steps.now c.loop-i.i _ (state_of c.loop-i.before) c.loop-i-test.true
      c.loop-i.invariant.run c.loop-i.invariant.here (c.in_ok-step.ensures.decided.0 c.if-not-branch.false);
  here = here_after (model.Start (lines_of c.args.lines.now ∷ [])) c.args.steps.now c.loop-i.i _ c.loop-i-test.true;
}
