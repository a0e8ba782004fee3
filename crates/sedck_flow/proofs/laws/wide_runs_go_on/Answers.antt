-- The law is a lemma on the definitions.
use Rattle.sedck_flow.proofs.RunsGoOn.{wide_goes_on}
use Rattle.sedck_flow.proofs.laws.wide_runs_go_on.Goals as goal

pub returns : goal.returns
returns c = wide_goes_on
