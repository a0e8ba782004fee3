use Rattle.sedck_search.proofs.Common.{◌≡◌, ℕ, ◌<◌, length, get_or, false, Some, slice_get, if◌then◌else◌}
use Rattle.sedck_search.proofs.reachable.reachable_marks.Given as goal

-- the marks so far
abbrev pub invariant-loop-is_reachable : goal.invariant-loop-is_reachable
invariant-loop-is_reachable l = record {
  long : length l.marks.items ≡ l.is_reachable-index;
  entries : (i : ℕ) → i < l.is_reachable-index → slice_get l.marks.items i ≡ Some (if get_or l.is_reachable-items i false then 65535 else 0);
}
