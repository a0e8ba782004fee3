use Rattle.std.specs.Prelude.{decimal}
use Rattle.sedck_cert.proofs.CutLemmas.{behind_both}
use Rattle.sedck_cert.proofs.reading.nodes.behind_two.Goals as goal

pub returns : goal.returns
returns c = behind_both _ (decimal c.args.first) (decimal c.args.second) _ c.behind_number-2.result c.in_ok-behind_number.ensures c.behind_number-2.ensures
