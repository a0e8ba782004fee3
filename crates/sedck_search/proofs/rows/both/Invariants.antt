use Rattle.sedck_search.proofs.Common.{◌≡◌, ℕ, ◌<◌, ◌≤◌, length, slice_index, bit_or}
use Rattle.sedck_search.proofs.rows.both.Given as goal

-- the words so far have the bits of both, and the others are as they were
abbrev pub invariant-loop-at : goal.invariant-loop-at
invariant-loop-at l = record {
  long : length l.words ≡ length l.left;
  done : (j : ℕ) → j < l.at → slice_index l.words j ≡ bit_or (slice_index l.left j) (slice_index l.right j);
  rest : (j : ℕ) → l.at ≤ j → slice_index l.words j ≡ slice_index l.left j;
}
