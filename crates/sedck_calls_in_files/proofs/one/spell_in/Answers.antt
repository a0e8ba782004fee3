use Rattle.std.proofs.Common.{subst, Contains}
use Rattle.sedck_calls_in_files.proofs.one.spell_in.Goals as goal

pub returns-in-Some-clause-spelled : goal.returns-in-Some-clause-spelled
returns-in-Some-clause-spelled g c = λ valid whole.
    let said = c.spell_one.ensures.spelled whole in
    record {
      explanation = said.explanation;
      is_said = record {
        found = c.in-Ok.found;
        is_found = c.in-Ok.ensures;
        call = c.in-Some.call.now;
        is_one = subst (λ calls. Contains calls c.in-Some.call.now) c.deref.ensures.value c.in-Some.ensures;
        is_said = said.is_said;
      };
      is_status = said.is_status;
      writes = said.writes;
    }
