-- The law is a lemma on the definitions.
use Rattle.sedck_flow.proofs.Accents.{by_characters, not_by_bytes}
use Rattle.sedck_flow.proofs.laws.accents_are_split.Goals as goal

pub returns : goal.returns
returns c = (by_characters, not_by_bytes)
