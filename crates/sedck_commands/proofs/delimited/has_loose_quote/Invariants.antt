use Rattle.sedck_commands.proofs.Common.{◌≡◌, length, has_loose_quote}
use Rattle.sedck_commands.proofs.delimited.has_loose_quote.Given as goal

abbrev pub invariant-quotes : goal.invariant-quotes
invariant-quotes l = has_loose_quote l.rest ≡ has_loose_quote l.text

abbrev pub decreases-quotes : goal.decreases-quotes
decreases-quotes l = length l.rest
