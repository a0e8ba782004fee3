use Rattle.sedck_commands.proofs.Common.{◌≡◌, length, begins_braced_comment}
use Rattle.sedck_commands.proofs.labels.begins_braced_comment.Given as goal

abbrev pub invariant-braces : goal.invariant-braces
invariant-braces l = begins_braced_comment l.rest ≡ begins_braced_comment l.text

abbrev pub decreases-braces : goal.decreases-braces
decreases-braces l = length l.rest
