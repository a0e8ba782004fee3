-- Each match is a wide match.
use Rattle.sedck_bre.proofs.Common.{◌≡◌, ◌≢◌, ℕ, zero, suc, ◌≤◌, List, [], ◌∷◌, length, refl, arith, Tree, Trees, Any, Set, Group, Seq, Repeat, Nil, Then, Groups, Times, Match, MatchAll, WideMatch, WideMatchAll}

-- a text that isn't empty has a byte
pub some_byte : (w : List ℕ) → w ≢ [] → 1 ≤ length w
some_byte [] h = absurd (h refl)
some_byte (b ∷ w) h = omega arith

one_byte : (b : ℕ) (w : List ℕ) → w ≡ b ∷ [] → w ≢ []
one_byte b w is empty = cc

abbrev Widens : (Groups → List ℕ → Groups → Type 0) → (Groups → List ℕ → Groups → Type 0) → Type 0
Widens M Wide = (e : Groups) (w : List ℕ) (f : Groups) → M e w f → Wide e w f

times_widen : (M Wide : Groups → List ℕ → Groups → Type 0) → Widens M Wide → (n : ℕ) → Widens (Times M n) (Times Wide n)
times_widen M Wide once zero e w f m = m
times_widen M Wide once (suc n) e w f (u, v, d, cut, first, others) = (u, v, d, cut, once e u d first, times_widen M Wide once n d v f others)

mutual
  pub widens : (t : Tree) → Widens (Match t) (WideMatch t)
  widens Any e w f (b, _, is, same) = (one_byte b w is, same)
  widens (Set words) e w f (b, _, is, same) = (one_byte b w is, same)
  widens (Group k body) e w f (d, g, before, inside, is) = (d, g, before, widens body d w g inside, is)
  widens (Seq ts) e w f m = all_widen ts e w f m
  widens (Repeat body least most) e w f (n, within, times) = (n, within, times_widen (Match body) (WideMatch body) (widens body) n e w f times)
  widens t e w f m = m

  pub all_widen : (ts : Trees) → Widens (MatchAll ts) (WideMatchAll ts)
  all_widen Nil e w f m = m
  all_widen (Then t ts) e w f (u, v, d, cut, first, others) = (u, v, d, cut, widens t e u d first, all_widen ts d v f others)
