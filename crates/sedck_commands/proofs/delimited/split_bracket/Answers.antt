use Rattle.sedck_commands.proofs.Common.{not, eqb, longest_parts}
use Rattle.sedck_commands.proofs.delimited.split_bracket.Goals as goal

pub returns : goal.returns
returns c = longest_parts (λ b. not (eqb b 93)) c.args.text.now _ _ _ c.run_length.ensures.value c.split_at.ensures.front c.split_at.ensures.back
