-- The law is two lemmas on the definitions.
use Rattle.sedck_flow.proofs.Common.{Start, any_locale}
use Rattle.sedck_flow.proofs.FilesNamed.{steps_read, steps_write}
use Rattle.sedck_flow.proofs.laws.wide_files_are_named.Goals as goal

pub returns : goal.returns
returns c = λ p d files steps run name. (steps_read any_locale d p (Start files) steps name run, steps_write any_locale d p (Start files) steps name run)
