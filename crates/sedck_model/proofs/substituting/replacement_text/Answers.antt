use Rattle.sedck_model.proofs.Common.{◌∙◌, ◌++◌, map, take, sym, ap, part_of, groups_of, text_for}
use Rattle.sedck_model.proofs.Replacing.{one_more_part}
use Rattle.sedck_model.proofs.substituting.replacement_text.Goals as goal

pub loop-part-preserved : goal.loop-part-preserved
loop-part-preserved c =
    let parts = c.args.parts.now in
    let i = c.loop-part.part-index in
    let w = take c.args.spot.now.at c.args.text.now in
    let e = groups_of c.args.text.now c.args.spot.now.groups in
    c.in_ok-extend_from_slice.ensures.items ∙ ap (λ x. x ++ c.part_text.result.now) c.loop-part.invariant
    ∙ ap (λ x. text_for (map part_of (take i parts)) w e ++ x) c.part_text.ensures ∙ sym (one_more_part parts i _ w e c.loop-part-test.true)
