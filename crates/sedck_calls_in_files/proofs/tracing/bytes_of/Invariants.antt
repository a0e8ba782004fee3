use Rattle.sedck_calls_in_files.proofs.Common.{◌≡◌, map, take, words_of}
use Rattle.sedck_calls_in_files.proofs.tracing.bytes_of.Given as goal

-- those so far
abbrev pub invariant-loop-word : goal.invariant-loop-word
invariant-loop-word l = map (λ slice. slice.now) l.slices.items ≡ words_of (take l.word-index l.words)
