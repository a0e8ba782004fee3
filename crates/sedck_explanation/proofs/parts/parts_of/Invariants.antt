use Rattle.sedck_explanation.proofs.Common.{take, map, AreParts}
use Rattle.sedck_explanation.proofs.parts.parts_of.Given as goal

-- those so far
abbrev pub invariant-loop-piece : goal.invariant-loop-piece
invariant-loop-piece g l =
    AreParts (g.O.Opener.known l.files) (map (λ word. word.now) l.words) (take l.piece-index l.pieces) (map (λ part. part.items) l.parts.items)
