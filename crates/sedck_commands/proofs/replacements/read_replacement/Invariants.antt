use Rattle.sedck_commands.proofs.Common.{◌≡◌, length, map, unread, part_of, ScriptFault, ReplacementFault}
use Rattle.sedck_commands.proofs.ReplacementLemmas.{PartsPassed}
use Rattle.sedck_commands.proofs.replacements.read_replacement.Given as goal

abbrev pub invariant-loop-parts : goal.invariant-loop-parts
invariant-loop-parts l =
    (l.rest.whole ≡ l.text.whole) × PartsPassed l.delimiter l.greatest (unread l.text) (map part_of l.parts.items) (unread l.rest)
    × ((fault : ScriptFault) → ReplacementFault (length l.text.whole.now) l.opening l.delimiter l.greatest (unread l.rest) fault
    → ReplacementFault (length l.text.whole.now) l.opening l.delimiter l.greatest (unread l.text) fault)

abbrev pub decreases-loop-parts : goal.decreases-loop-parts
decreases-loop-parts l = length (unread l.rest)
