use Rattle.sedck_expressions.proofs.Common.{ap, ◌∙◌, length, nat_lt}
use Rattle.sedck_expressions.proofs.WithoutBackslash.{run_tells}
use Rattle.sedck_expressions.proofs.judging.has_backslash.Goals as goal

pub returns : goal.returns
returns c = ap (λ n. nat_lt n (length c.args.text.now)) c.run_length.ensures.value ∙ run_tells c.args.text.now
