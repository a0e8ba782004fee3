use Rattle.sedck_commands.proofs.FaultRefuses.{fault_refuses}
use Rattle.sedck_commands.proofs.laws.item_faults_refuse.Goals as goal

pub returns : goal.returns
returns c = λ text fault x items y few once nests. fault_refuses x items y few once nests
