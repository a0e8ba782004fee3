use Rattle.std.proofs.Common.{◌≡◌, ◌↔◌, map, length}
use Rattle.sedck_script.specs.View.{command_of}
use Rattle.sedck_plain.proofs.same.same_commands.Given as goal

abbrev pub invariant-commands : goal.invariant-commands
invariant-commands l = (map command_of l.fn.one ≡ map command_of l.fn.other) ↔ (map command_of l.left.0.now ≡ map command_of l.left.1.now)

abbrev pub decreases-commands : goal.decreases-commands
decreases-commands l = length l.left.0.now
