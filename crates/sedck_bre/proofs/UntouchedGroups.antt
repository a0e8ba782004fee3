-- A match leaves the texts of the groups that aren't in the tree as they were.
use Rattle.sedck_bre.proofs.Common.{◌≡◌, ℕ, zero, suc, false, List, ◌∷◌, ◌⊎◌, inl, inr, ap, ◌∙◌, arith, nat_tests, Tree, Trees, Group, Seq, Repeat, Nil, Then, groups_in, groups_in_all, is_in, Groups, with_text, unset, Times, WideMatch, WideMatchAll, is_in-neither}

-- a match leaves the group's text as it was
abbrev pub Leaves : ℕ → (Groups → List ℕ → Groups → Type 0) → Type 0
Leaves k M = (e : Groups) (w : List ℕ) (f : Groups) → M e w f → f k ≡ e k

same_at : (k : ℕ) (e f : Groups) → f ≡ e → f k ≡ e k
same_at k e f is = ap (λ (g : Groups). g k) is

times_leave : (k : ℕ) (M : Groups → List ℕ → Groups → Type 0) → Leaves k M → (count : ℕ) → Leaves k (Times M count)
times_leave k M once zero e w f (_, is) = same_at k e f is
times_leave k M once (suc count) e w f (u, v, d, _, first, others) = times_leave k M once count d v f others ∙ once e u d first

-- neither the group that is closed nor one inside it
group_leaves : (j k : ℕ) (body : Tree) (d e g : Groups) (w : List ℕ) → is_in k (j ∷ groups_in body) ≡ false → (d ≡ e) ⊎ (d ≡ unset body e)
    → (is_in k (groups_in body) ≡ false → g k ≡ d k) → with_text g j w k ≡ e k
group_leaves j k body d e g w absent (inl s) inside = rw (← s) (grind (arith, nat_tests))
group_leaves j k body d e g w absent (inr s) inside = let entered = same_at k (unset body e) d s in grind (arith, nat_tests)

mutual
  match_leaves : (t : Tree) (k : ℕ) → is_in k (groups_in t) ≡ false → Leaves k (WideMatch t)
  match_leaves (Group j body) k absent e w f (d, g, before, inside, is) =
      same_at k (with_text g j w) f is ∙ group_leaves j k body d e g w absent before (λ other. match_leaves body k other d w g inside)
  match_leaves (Seq ts) k absent e w f m = all_leave ts k absent e w f m
  match_leaves (Repeat body least most) k absent e w f (count, _, times) = times_leave k (WideMatch body) (match_leaves body k absent) count e w f times
  match_leaves t k absent e w f m = same_at k e f m.1

  pub all_leave : (ts : Trees) (k : ℕ) → is_in k (groups_in_all ts) ≡ false → Leaves k (WideMatchAll ts)
  all_leave Nil k absent e w f (_, is) = same_at k e f is
  all_leave (Then t ts) k absent e w f (u, v, d, _, first, others) = let other = is_in-neither k (groups_in t) (groups_in_all ts) absent in
      all_leave ts k other.1 d v f others ∙ match_leaves t k other.0 e u d first
