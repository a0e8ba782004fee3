use Rattle.sedck_bre.proofs.Common.{◌≡◌, ℕ, ◌≤◌, min, length, arith, subst, are_numbered, cap, IsLeastSize, HasLength, tree, no_bounds, least, IsWellFormed, Tree, get_or-replicate}
use Rattle.sedck_bre.proofs.LeastFloor.{least-floor}
use Rattle.sedck_bre.proofs.LeastReached.{least-met}
use Rattle.sedck_bre.proofs.expression.Expr.new.Goals as goal

is_least : (t : Tree) (n : ℕ) → IsWellFormed t → n ≡ min (least no_bounds t) cap → IsLeastSize (HasLength t) n
is_least t n f e = record {
  floor = λ m h. let low : least no_bounds t ≤ length h.0 = least-floor t h.0 (are_numbered t f) h.1 in omega (arith, low, h.2);
  met = λ l. let s : least no_bounds t ≡ n = omega arith in subst (HasLength t) s (least-met t f);
  capped = omega arith;
}

-- the least length that is kept is that of the tree
pub invariant_of-result : goal.invariant_of-result
invariant_of-result c = (
  c.requires.formed,
  c.requires.groups,
  is_least (tree c.args.body) c.least_of-least.result c.requires.formed (c.least_of-least.ensures.value no_bounds (λ k l. get_or-replicate 256 k 0 0 l)),
  c.top_groups-top.ensures,
)
