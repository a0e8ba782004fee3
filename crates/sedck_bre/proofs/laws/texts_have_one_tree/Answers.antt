-- The law is a lemma on the definitions.
use Rattle.sedck_bre.proofs.Common.{one_tree}
use Rattle.sedck_bre.proofs.laws.texts_have_one_tree.Goals as goal

pub returns : goal.returns
returns c = one_tree
