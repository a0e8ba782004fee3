use Rattle.sedck_commands.proofs.Common.{◌≡◌, length, unread, DelimitedList, IsReadUpTo, ScriptFault, ListFault}
use Rattle.sedck_commands.proofs.delimited.read_list.Given as goal

abbrev pub invariant-loop-bytes : goal.invariant-loop-bytes
invariant-loop-bytes l =
    (l.rest.whole ≡ l.text.whole) × IsReadUpTo (DelimitedList l.delimiter) (unread l.text) l.bytes.items (unread l.rest)
    × ((fault : ScriptFault) → ListFault (length l.text.whole.now) l.opening l.delimiter (unread l.rest) fault
    → ListFault (length l.text.whole.now) l.opening l.delimiter (unread l.text) fault)

abbrev pub decreases-loop-bytes : goal.decreases-loop-bytes
decreases-loop-bytes l = length (unread l.rest)
