use Rattle.sedck_commands.proofs.Common.{◌≡◌, min, take, digits_value}
use Rattle.sedck_commands.proofs.addresses.value_of.Given as goal

abbrev pub invariant-loop-digit : goal.invariant-loop-digit
invariant-loop-digit l = l.value ≡ min (digits_value 10 (take l.digit-index l.digits)) 4294967296
