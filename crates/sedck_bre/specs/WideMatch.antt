-- What an expression may match whatever the locale (XBD 7.3.1, 9.2): a character has one byte or more, and which characters a list has is the
-- locale's business.
use Rattle.std.specs.Prelude.{◌≡◌, ◌≢◌, ◌⊎◌, ℕ, List, [], ◌++◌}
use Rattle.sedck_expressions.specs.Tree.{Tree, Trees, Any, Set, Group, Seq, Repeat, Nil, Then}
use Rattle.sedck_bre.specs.Match.{Groups, with_text, unset, IsWithin, Times, Match}

abbrev mutual
  -- as in `Match`, but that `.` and a list match any text that isn't empty
  pub WideMatch : Tree → Groups → List ℕ → Groups → Type 0
  WideMatch Any e w e' = (w ≢ []) × (e' ≡ e)
  WideMatch (Set words) e w e' = (w ≢ []) × (e' ≡ e)
  WideMatch (Group k body) e w e' = (d f : Groups) × ((d ≡ e) ⊎ (d ≡ unset body e)) × WideMatch body d w f × (e' ≡ with_text f k w)
  WideMatch (Seq ts) e w e' = WideMatchAll ts e w e'
  WideMatch (Repeat body least most) e w e' = (n : ℕ) × IsWithin least most n × Times (WideMatch body) n e w e'
  WideMatch t e w e' = Match t e w e'

  pub WideMatchAll : Trees → Groups → List ℕ → Groups → Type 0
  WideMatchAll Nil e w e' = (w ≡ []) × (e' ≡ e)
  WideMatchAll (Then t ts) e w e' = (u v : List ℕ) × (d : Groups) × (w ≡ u ++ v) × WideMatch t e u d × WideMatchAll ts d v e'
