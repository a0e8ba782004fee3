use Rattle.sedck_commands.proofs.Common.{◌≡◌, length, unread, DelimitedExpression, IsReadUpTo, IsFirstEscape, ScriptFault, CutFault}
use Rattle.sedck_commands.proofs.delimited.read_replaced.Given as goal

abbrev pub invariant-loop-bytes : goal.invariant-loop-bytes
invariant-loop-bytes l =
    (l.rest.whole ≡ l.text.whole) × IsReadUpTo (DelimitedExpression l.delimiter) (unread l.text) l.bytes.items (unread l.rest)
    × IsFirstEscape l.delimiter l.text.whole.now (unread l.text) l.bytes.items (unread l.rest) l.escape
    × ((fault : ScriptFault) → CutFault (length l.text.whole.now) l.opening l.delimiter (unread l.rest) fault
    → CutFault (length l.text.whole.now) l.opening l.delimiter (unread l.text) fault)

abbrev pub decreases-loop-bytes : goal.decreases-loop-bytes
decreases-loop-bytes l = length (unread l.rest)
