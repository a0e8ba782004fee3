use Rattle.sedck_search.proofs.Common.{◌≡◌, ℕ, ◌<◌, length, Some, slice_get}
use Rattle.sedck_search.specs.Private.NodeSet.{has}
use Rattle.sedck_search.proofs.reachable.reached_from_starts.Given as goal

-- the marks so far
abbrev pub invariant-loop-index : goal.invariant-loop-index
invariant-loop-index l = record {
  long : length l.marks.items ≡ l.index;
  entries : (i : ℕ) → i < l.index → slice_get l.marks.items i ≡ Some (has l.reached i);
}
