use Rattle.sedck_calls_in_files.proofs.Common.{◌≡◌, IfSome, subst, sym, known_bytes, IsHeldAt}
use Rattle.sedck_calls_in_files.proofs.one.spell_call.Goals as goal

pub returns-in-Text-clause-spelled : goal.returns-in-Text-clause-spelled
returns-in-Text-clause-spelled g c = λ valid whole.
    let k = g.O.Opener.known c.args.walk.now.files.now in
    let path = c.args.path.now in
    let said = c.spell_in.ensures.spelled valid whole in
    record {
      explanation = said.explanation;
      is_said = record {
        text = c.deref.result.now;
        is_text = subst (λ text. IfSome (known_bytes k path) (λ bytes. text ≡ bytes)) (sym c.deref.ensures.value)
            (subst (IsHeldAt k path) c.in-Text.is c.in-Ok.ensures);
        is_said = said.is_said;
      };
      is_status = said.is_status;
      writes = said.writes;
    }
