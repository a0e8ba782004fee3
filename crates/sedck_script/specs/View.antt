-- What a user sees of a command: no pointers and no capacities.
use Rattle.sedck_commands.specs.Program as clean
pub use Rattle.sedck_commands.specs.View.{pattern_of, part_of, place_of, address_of, substitution_of, verb_of}
use Rattle.sedck_script.specs.declared.script.Command.{Command}

abbrev pub command_of : Command → clean.Command
command_of c = record { address = address_of c.address; negated = c.negated; verb = verb_of c.verb }
