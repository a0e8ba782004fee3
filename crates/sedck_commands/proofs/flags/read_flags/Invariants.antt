use Rattle.sedck_commands.proofs.Common.{◌≡◌, false, length, is_some, unread, ScriptFault, FlagsFault}
use Rattle.sedck_commands.proofs.FlagLemmas.{FlagsPassed}
use Rattle.sedck_commands.proofs.flags.read_flags.Given as goal

abbrev pub invariant-loop-flag : goal.invariant-loop-flag
invariant-loop-flag l = (l.rest.whole ≡ l.text.whole) × FlagsPassed (unread l.text) l.seen.global l.seen.print l.seen.nth (unread l.rest)
    × ((f : ScriptFault) → FlagsFault (length l.text.whole.now) l.seen.global l.seen.print (is_some l.seen.nth) (unread l.rest) f
    → FlagsFault (length l.text.whole.now) false false false (unread l.text) f)

abbrev pub decreases-loop-flag : goal.decreases-loop-flag
decreases-loop-flag l = length (unread l.rest)
