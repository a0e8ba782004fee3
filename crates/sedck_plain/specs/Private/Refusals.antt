-- Which fault is reported for one of a text.
use Rattle.std.specs.Prelude.{Bool, true, false, if◌then◌else◌}
use Rattle.sedck_commands.specs.declared.fault.ScriptFault.{ScriptFault}
use Rattle.sedck_commands.specs.declared.fault.ScriptFault.TheVariants as script
use Rattle.sedck_plain.specs.declared.plain.Fault.{Fault}
use Rattle.sedck_plain.specs.declared.plain.Fault.TheVariants as fault

abbrev pub is_memory : ScriptFault → Bool
is_memory script.OutOfMemory = true
is_memory _ = false

abbrev pub unless_memory : ScriptFault → Fault → Fault
unless_memory why other = if is_memory why then fault.OutOfMemory else other
