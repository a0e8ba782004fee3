-- The law is a lemma on the definitions.
use Rattle.sedck_search.proofs.PlainWalks.{obstacle_plain}
use Rattle.sedck_search.proofs.laws.obstacles_were_there.Goals as goal

pub returns : goal.returns
returns c = obstacle_plain
