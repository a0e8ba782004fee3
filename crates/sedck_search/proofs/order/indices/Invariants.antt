use Rattle.sedck_search.proofs.Common.{◌≡◌, length, AreIndices}
use Rattle.sedck_search.proofs.order.indices.Given as goal

-- the numbers so far
abbrev pub invariant-loop-index : goal.invariant-loop-index
invariant-loop-index l = record {
  long : length l.numbers.items ≡ l.index;
  same : AreIndices l.numbers.items;
}
