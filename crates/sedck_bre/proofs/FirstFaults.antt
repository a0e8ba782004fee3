-- A text has a first fault exactly where it spells no tree.
use Rattle.sedck_bre.proofs.Common.{fault_or_tree}
use Rattle.sedck_bre.specs.Laws.{FaultsAreOfNoTree}

pub faults_are_of_no_tree : FaultsAreOfNoTree
faults_are_of_no_tree text = fault_or_tree text
