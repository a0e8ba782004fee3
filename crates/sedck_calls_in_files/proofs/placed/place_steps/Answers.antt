use Rattle.sedck_calls_in_files.proofs.Common.{◌∙◌, subst, arith, IsSomeIn}
use Rattle.sedck_calls_in_files.proofs.Lists.{all_more_set}
use Rattle.sedck_calls_in_files.proofs.placed.place_steps.Goals as goal

pub loop-step-preserved : goal.loop-step-preserved
loop-step-preserved c = (
  c.place_step.ensures.file ∙ c.loop-step.invariant.0,
  all_more_set (λ step. IsSomeIn c.args.places.now.file.now step.position) c.loop-step.step-items c.loop-step.step-index _ (omega (arith, c.loop-step-test.true))
      c.loop-step.invariant.1 (subst (λ file. IsSomeIn file.now c.place_step.new.step.position) c.loop-step.invariant.0 c.place_step.ensures.step),
)
