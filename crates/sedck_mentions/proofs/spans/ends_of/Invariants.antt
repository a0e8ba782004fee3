use Rattle.std.proofs.Common.{◌≡◌, ◌<◌, ℕ, drop, get_or, max, vec_len}
use Rattle.sedck_mentions.specs.Private.Pass.{end_at}
use Rattle.sedck_mentions.proofs.spans.ends_of.Given as goal

-- what is left is still to be noted
abbrev pub invariant-loop-span : goal.invariant-loop-span
invariant-loop-span l = record {
  count : vec_len l.ends ≡ l.count;
  ends : (k : ℕ) → k < l.count → max (get_or l.ends.items k 0) (end_at k (drop l.span-index l.spans)) ≡ end_at k l.spans;
}
