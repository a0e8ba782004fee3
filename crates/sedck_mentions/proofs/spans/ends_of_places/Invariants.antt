use Rattle.std.proofs.Common.{◌≡◌, ◌<◌, ℕ, drop, get_or, map, max, vec_len}
use Rattle.sedck_mentions.specs.Private.Pass.{end_at, place_span}
use Rattle.sedck_mentions.proofs.spans.ends_of_places.Given as goal

-- what is left is still to be noted
abbrev pub invariant-loop-place : goal.invariant-loop-place
invariant-loop-place l = record {
  count : vec_len l.ends ≡ l.count;
  ends : (k : ℕ) → k < l.count → max (get_or l.ends.items k 0) (end_at k (map place_span (drop l.place-index l.places))) ≡ end_at k (map place_span l.places);
}
