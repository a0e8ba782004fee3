-- What holds of a script's fields.
use Rattle.std.specs.Prelude.{◌≡◌, Bool, List, map}
use Rattle.sedck_bre.specs.Lengths.{IsLeastSize}
use Rattle.sedck_commands.specs.Program as clean
use Rattle.sedck_commands.specs.Program.{expressions}
use Rattle.sedck_script.specs.Names.{reads, writes}
use Rattle.sedck_script.specs.Invariant.{IsScript}
use Rattle.sedck_script.specs.Shortest.{SomeHasLength}
pub use Rattle.sedck_commands.specs.ReplacementView.{pattern_of, part_of}
use Rattle.sedck_script.specs.declared.script.Command.{Command}
use Rattle.sedck_script.specs.declared.script.Script.TheInside.{Inside}
use Rattle.sedck_script.specs.View.{command_of}

abbrev pub program_from : List Command → Bool → clean.Program
program_from commands quiet = record { commands = map command_of commands; quiet = quiet }

abbrev pub program_of : Inside → clean.Program
program_of s = program_from s.commands.items s.quiet

-- What holds of a script's fields: its program is one that the parser gives, the names are the program's, and the least length is that of its expressions.
pub record IsWhole (s : Inside) : Type 0 where
  pub script : IsScript (program_of s)
  pub read : map (λ name. name.now) s.reads.items ≡ reads (program_of s)
  pub written : map (λ name. name.now) s.writes.items ≡ writes (program_of s)
  pub least : IsLeastSize (SomeHasLength (expressions (program_of s).commands)) s.shortest
