use Rattle.sedck_explanation.proofs.Common.{◌+◌, take, map, sym, subst, AreParts}
use Rattle.sedck_explanation.proofs.PartLemmas.{next_part}
use Rattle.sedck_explanation.proofs.parts.parts_of.Goals as goal

pub loop-piece-preserved : goal.loop-piece-preserved
loop-piece-preserved g c =
    let known = g.O.Opener.known c.args.files.now in
    let words = map (λ word. word.now) c.args.words.now in
    subst (λ items. AreParts known words (take (c.loop-piece.piece-index + 1) c.args.pieces.now) (map (λ part. part.items) items))
    (sym c.in_ok-add_part.ensures)
    (next_part (λ part. part.items) known words c.args.pieces.now c.loop-piece.parts.items c.loop-piece.piece-index _ c.in_ok-part.part
    c.loop-piece-test.true c.loop-piece.invariant c.in_ok-part.ensures)
