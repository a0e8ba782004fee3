use Rattle.std.proofs.Common.{ap, ◌∙◌, ◌++◌, [], ◌∷◌, take, drop, length, ◌-◌, map, flat_map}
use Rattle.sedck_call.specs.Scripts.{on_new_line}
use Rattle.sedck_call.proofs.Words.{next_part}
use Rattle.sedck_call.proofs.script.joined.Goals as goal

pub loop-part-preserved : goal.loop-part-preserved
loop-part-preserved c =
    let more = take (length c.args.parts.now - 1) (drop 1 c.args.parts.now) in
    let part = c.deref-in-loop-part.result.now in
    c.in_ok-extend_from_slice-2.ensures.items
    ∙ ap (λ text. text ++ part) (c.in_ok-push.ensures.items ∙ ap (λ text. text ++ 10 ∷ []) c.loop-part.invariant)
    ∙ ap (λ bytes. ((c.extend_from_slice.new.self.items ++ flat_map on_new_line (take c.loop-part.part-index (map (λ part. part.items) more))) ++ 10 ∷ []) ++ bytes)
    (c.deref-in-loop-part.ensures.value ∙ ap (λ part. part.items) c.part-item.is)
    ∙ next_part (λ part. part.items) c.extend_from_slice.new.self.items more c.loop-part.part-index _ c.loop-part-test.true
