use Rattle.sedck_script.proofs.FirstFaultIsOne.{first_fault_refuses}
use Rattle.sedck_script.proofs.laws.first_faults_refuse.Goals as goal

pub returns : goal.returns
returns c = first_fault_refuses
