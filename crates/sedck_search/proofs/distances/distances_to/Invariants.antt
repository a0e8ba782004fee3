use Rattle.sedck_search.proofs.Common.{◌≡◌, ℕ, ◌<◌, length, Some, slice_get, node_index}
use Rattle.sedck_search.proofs.DistanceLemmas.{first_distance}
use Rattle.sedck_search.proofs.distances.distances_to.Given as goal

-- the distances and marks so far
abbrev pub invariant-loop-index : goal.invariant-loop-index
invariant-loop-index l = record {
  long : length l.distances.items ≡ l.index;
  entries : (i : ℕ) → i < l.index → slice_get l.distances.items i ≡ Some (first_distance (node_index l.fn.to) i);
}
