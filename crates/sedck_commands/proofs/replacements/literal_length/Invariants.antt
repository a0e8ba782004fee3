use Rattle.sedck_commands.proofs.Common.{◌≡◌, map, take, literal_length, part_of}
use Rattle.sedck_commands.proofs.replacements.literal_length.Given as goal

-- the parts so far have this length
abbrev pub invariant-loop-part : goal.invariant-loop-part
invariant-loop-part l = l.length ≡ literal_length (take l.part-index (map part_of l.parts))
