use Rattle.sedck_model.proofs.Common.{◌≡◌, map, take, part_of, groups_of, text_for}
use Rattle.sedck_model.proofs.substituting.replacement_text.Given as goal

-- the text of the parts so far
abbrev pub invariant-loop-part : goal.invariant-loop-part
invariant-loop-part l = l.made.items ≡ text_for (map part_of (take l.part-index l.parts)) (take l.spot.at l.text) (groups_of l.text l.spot.groups)
