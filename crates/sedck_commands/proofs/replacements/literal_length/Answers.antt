use Rattle.sedck_commands.proofs.Common.{suc, map, arith, part_of, add-one}
use Rattle.sedck_commands.proofs.LiteralLengths.{filler_part, length_take_le, coded_length_more}
use Rattle.sedck_commands.proofs.replacements.literal_length.Goals as goal

pub overflow_add-length : goal.overflow_add-length
overflow_add-length c =
    let more = coded_length_more c.args.parts.now c.loop-part.part-index filler_part c.loop-part-test.true in
    let bound = length_take_le (map part_of c.args.parts.now) (suc c.loop-part.part-index) in
    omega (arith, c.loop-part.invariant, c.part_length-length.ensures, c.requires)

pub loop-part-preserved : goal.loop-part-preserved
loop-part-preserved c =
    let more = coded_length_more c.args.parts.now c.loop-part.part-index filler_part c.loop-part-test.true in
    rw add-one (omega (arith, c.loop-part.invariant, c.part_length-length.ensures))
