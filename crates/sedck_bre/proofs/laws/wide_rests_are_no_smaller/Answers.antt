-- The law is a lemma on the definitions.
use Rattle.sedck_bre.proofs.DifferentGroups.{no_shorter}
use Rattle.sedck_bre.proofs.laws.wide_rests_are_no_smaller.Goals as goal

pub returns : goal.returns
returns c = no_shorter
