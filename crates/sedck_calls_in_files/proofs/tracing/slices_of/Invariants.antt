use Rattle.sedck_calls_in_files.proofs.Common.{◌≡◌, take, map}
use Rattle.sedck_calls_in_files.proofs.tracing.slices_of.Given as goal

-- the words so far
abbrev pub invariant-loop-word : goal.invariant-loop-word
invariant-loop-word l = map (λ word. word.now) l.slices.items ≡ map (λ word. word.items) (take l.word-index l.words)
