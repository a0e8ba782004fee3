use Rattle.sedck_commands.proofs.Common.{◌≡◌, ℕ, List, length}
use Rattle.sedck_commands.specs.ReadAlike.{has_control}
use Rattle.sedck_commands.specs.FirstFaults.{FirstControl}
use Rattle.sedck_commands.proofs.names.first_control.Given as goal

abbrev pub invariant-bytes : goal.invariant-bytes
invariant-bytes l =
    record { clean : has_control l.rest ≡ has_control l.name; first : (behind : List ℕ) → FirstControl l.rest behind → FirstControl l.name behind }

abbrev pub decreases-bytes : goal.decreases-bytes
decreases-bytes l = length l.rest
