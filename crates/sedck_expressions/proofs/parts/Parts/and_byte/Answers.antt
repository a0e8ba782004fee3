use Rattle.sedck_expressions.proofs.PartLemmas.{byte_more}
use Rattle.sedck_expressions.proofs.parts.Parts.and_byte.Goals as goal

pub returns : goal.returns
returns c = byte_more c.args.self
