-- The status of what was judged, this project's own: as the program has it.
use Rattle.std.specs.Prelude.{ℕ, Result, Ok, Err}
use Rattle.sedck_commands.specs.declared.fault.ScriptFault.TheVariants as script
use Rattle.sedck_cert.specs.declared.reading.CertFault.TheVariants as cert
use Rattle.sedck_cert.specs.declared.checking.Verdict.{Verdict}
use Rattle.sedck_cert.specs.declared.checking.Verdict.TheVariants.{Accepted, Rejected}
use Rattle.sedck_cert.specs.declared.verifying.Fault.{Fault}
use Rattle.sedck_cert.specs.declared.verifying.Fault.TheVariants as faults

abbrev pub status_of : Result Verdict Fault → ℕ
status_of (Ok Accepted) = 0
status_of (Ok (Rejected why)) = 1
status_of (Err (faults.Script script.OutOfMemory)) = 4
status_of (Err (faults.Certificate cert.OutOfMemory)) = 4
status_of (Err (faults.Script why)) = 2
status_of (Err (faults.Certificate why)) = 2
