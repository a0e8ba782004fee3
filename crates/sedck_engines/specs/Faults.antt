-- The fault of an engine where a fault below it ends its work, as `RunFault::from` answers it.
use Rattle.sedck_commands.specs.declared.fault.ScriptFault.{ScriptFault}
use Rattle.sedck_commands.specs.declared.fault.ScriptFault.TheVariants as script
use Rattle.sedck_cert.specs.declared.reading.CertFault.{CertFault}
use Rattle.sedck_cert.specs.declared.reading.CertFault.TheVariants as cert
use Rattle.sedck_cert.specs.declared.verifying.Fault.{Fault}
use Rattle.sedck_cert.specs.declared.verifying.Fault.TheVariants as below
use Rattle.sedck_engines.specs.declared.answer.RunFault.{RunFault}
use Rattle.sedck_engines.specs.declared.answer.RunFault.TheVariants as fault

-- out of memory is reported as such, wherever it came from
abbrev pub run_fault : Fault → RunFault
run_fault (below.Script script.OutOfMemory) = fault.OutOfMemory
run_fault (below.Certificate cert.OutOfMemory) = fault.OutOfMemory
run_fault (below.Script why) = fault.Script why
run_fault (below.Certificate why) = fault.Certificate why

-- the same of a script's fault alone
abbrev pub script_fault : ScriptFault → RunFault
script_fault script.OutOfMemory = fault.OutOfMemory
script_fault why = fault.Script why

-- and of a certificate's
abbrev pub certificate_fault : CertFault → RunFault
certificate_fault cert.OutOfMemory = fault.OutOfMemory
certificate_fault why = fault.Certificate why
