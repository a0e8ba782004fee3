use Rattle.sedck_calls_in_files.proofs.Common.{refl, inr}
use Rattle.sedck_calls_in_files.proofs.one.spell_one.Goals as goal

pub returns-in-Ok-deliver-clause-spelled : goal.returns-in-Ok-deliver-clause-spelled
returns-in-Ok-deliver-clause-spelled g c = λ whole.
    let delivered = c.in-Ok-deliver.ensures.delivered in
    record {
      explanation = c.in-Ok.explanation;
      is_said = c.in-Ok.ensures.said;
      is_status = delivered.is_status;
      writes = delivered.writes refl;
    }

pub returns-in-Ok-deliver-clause-refused : goal.returns-in-Ok-deliver-clause-refused
returns-in-Ok-deliver-clause-refused g c = λ misused. (c.in-Ok-deliver.ensures.delivered.writes refl).kept (λ accepted. cc)

pub returns-in-Ok-deliver-clause-silent : goal.returns-in-Ok-deliver-clause-silent
returns-in-Ok-deliver-clause-silent g c = λ accepted. c.in-Ok-deliver.ensures.delivered.silent (inr accepted)
