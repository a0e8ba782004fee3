-- The number, the name and the printed text of a certificate's fault.
use Rattle.std.specs.Prelude.{ℕ, List, ◌++◌, Option, Some, None, decimal, codes}
use Rattle.sedck_cert.specs.Faults.{line_of}
use Rattle.sedck_cert.specs.declared.reading.CertFault.{CertFault}
use Rattle.sedck_cert.specs.declared.reading.CertFault.TheVariants.{BadHeader, BadCount, BadNode, BadNames, BadEnd, OutOfMemory}

abbrev pub number_of : CertFault → ℕ
number_of (BadHeader line) = 1
number_of (BadCount line) = 2
number_of (BadNode line) = 3
number_of (BadNames line) = 4
number_of (BadEnd line) = 5
number_of OutOfMemory = 6

abbrev pub name_of : CertFault → List ℕ
name_of (BadHeader line) = codes "bad-header"
name_of (BadCount line) = codes "bad-count"
name_of (BadNode line) = codes "bad-node"
name_of (BadNames line) = codes "bad-names"
name_of (BadEnd line) = codes "bad-end"
name_of OutOfMemory = codes "out-of-memory"

-- the line, where the fault has one
abbrev pub place_text : Option ℕ → List ℕ
place_text None = codes ""
place_text (Some line) = codes " at line " ++ decimal line

abbrev pub fault_text : CertFault → List ℕ
fault_text fault = codes "fault " ++ decimal (number_of fault) ++ codes " " ++ name_of fault ++ place_text (line_of fault)
