use Rattle.std.proofs.Common.{◌∙◌, eqb}
use Rattle.sedck_text.proofs.Runs.{first_place}
use Rattle.sedck_text.proofs.class.Class.run_length.Goals as goal

pub returns-in-Except-clause-value : goal.returns-in-Except-clause-value
returns-in-Except-clause-value c =
    rw c.in-Except.is (c.unwrap_or.ensures ∙ first_place (λ b. eqb b c.in-Except.byte) c.args.text.now _ c.memchr.ensures)
