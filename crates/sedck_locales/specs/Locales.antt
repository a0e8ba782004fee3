-- What an expression matches (XBD 9.3) where a locale says what its bracket lists do (XBD 9.3.5).
use Rattle.std.specs.Prelude.{◌≡◌, ℕ, ◌<◌, List, [], ◌∷◌, ◌++◌, IsTrue, ◌⊎◌}
use Rattle.sedck_expressions.specs.Tree.{Tree, Trees, Byte, Any, Set, Start, End, Maybe, Group, Ref, Seq, Repeat, Nil, Then, is_in}
use Rattle.sedck_expressions.specs.Brackets.{IsBracketList}
use Rattle.sedck_bre.specs.Match.{Groups, text_of, with_text, unset, IsWithin, Times}

-- what a list of this text matches, in a locale
abbrev pub Lists : Type 1
Lists = List ℕ → List ℕ → Type 0

abbrev mutual
  -- As `Match`, of a tree in which each set is the text of its list: that matches what the locale says.
  pub MatchIn : Lists → Tree → Groups → List ℕ → Groups → Type 0
  MatchIn lists (Byte b) e w e' = (w ≡ b ∷ []) × (e' ≡ e)
  MatchIn lists Any e w e' = (b : ℕ) × (b < 256) × (w ≡ b ∷ []) × (e' ≡ e)
  MatchIn lists (Set text) e w e' = lists text w × (e' ≡ e)
  MatchIn lists Start e w e' = (w ≡ []) × (e' ≡ e)
  MatchIn lists End e w e' = (w ≡ []) × (e' ≡ e)
  MatchIn lists (Maybe b) e w e' = ((w ≡ []) ⊎ (w ≡ b ∷ [])) × (e' ≡ e)
  MatchIn lists (Group k body) e w e' = (d f : Groups) × ((d ≡ e) ⊎ (d ≡ unset body e)) × MatchIn lists body d w f × (e' ≡ with_text f k w)
  MatchIn lists (Ref k) e w e' = (w ≡ text_of e k) × (e' ≡ e)
  MatchIn lists (Seq ts) e w e' = MatchAllIn lists ts e w e'
  MatchIn lists (Repeat body least most) e w e' = (n : ℕ) × IsWithin least most n × Times (MatchIn lists body) n e w e'

  pub MatchAllIn : Lists → Trees → Groups → List ℕ → Groups → Type 0
  MatchAllIn lists Nil e w e' = (w ≡ []) × (e' ≡ e)
  MatchAllIn lists (Then t ts) e w e' = (u v : List ℕ) × (d : Groups) × (w ≡ u ++ v) × MatchIn lists t e u d × MatchAllIn lists ts d v e'

-- in the POSIX locale a list matches one of its bytes
abbrev pub PosixLists : Lists
PosixLists text w = (bytes : List ℕ) × IsBracketList text bytes × (b : ℕ) × IsTrue (is_in b bytes) × (w ≡ b ∷ [])
