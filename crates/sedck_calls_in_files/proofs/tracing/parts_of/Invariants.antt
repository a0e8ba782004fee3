use Rattle.sedck_calls_in_files.proofs.Common.{◌≡◌, map, take}
use Rattle.sedck_calls_in_files.specs.Judged.{piece_text}
use Rattle.sedck_calls_in_files.proofs.tracing.parts_of.Given as goal

-- those so far
abbrev pub invariant-loop-piece : goal.invariant-loop-piece
invariant-loop-piece l =
    map (λ part. part.items) l.parts.items ≡ map (piece_text (map (λ word. word.now) l.words)) (take l.piece-index l.pieces)
