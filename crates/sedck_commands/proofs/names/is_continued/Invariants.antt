use Rattle.sedck_commands.proofs.Common.{◌≡◌, length, is_continued}
use Rattle.sedck_commands.proofs.names.is_continued.Given as goal

abbrev pub invariant-bytes : goal.invariant-bytes
invariant-bytes l = is_continued l.rest ≡ is_continued l.line

abbrev pub decreases-bytes : goal.decreases-bytes
decreases-bytes l = length l.rest
