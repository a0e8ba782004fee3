use Rattle.sedck_search.proofs.Common.{◌≡◌, take, bit_count}
use Rattle.sedck_search.proofs.rows.count_each.Given as goal

abbrev pub invariant-loop-word : goal.invariant-loop-word
invariant-loop-word l = l.count ≡ bit_count (take l.word-index l.words)
