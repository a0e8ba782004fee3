-- The law is two lemmas on the definitions.
use Rattle.sedck_script.proofs.SpelledIsRead.{spelled_read, read_once}
use Rattle.sedck_script.proofs.laws.spelled_scripts_are_read.Goals as goal

pub returns : goal.returns
returns c = λ text p s. (spelled_read s, read_once (spelled_read s))
