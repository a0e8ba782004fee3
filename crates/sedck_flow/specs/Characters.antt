-- What an expression matches by characters of UTF-8, where a byte above 127 is a part of a character (XBD 6.1, 7.3.1, 9.2; RFC 3629, section 3), as
-- GNU sed, BusyBox and others match in such a locale.
use Rattle.std.specs.Prelude.{◌≡◌, ◌≢◌, ◌⊎◌, ℕ, ◌&&◌, Bool, false, IsTrue, MatchBool, List, [], ◌∷◌, ◌++◌, length, nat_lt}
use Rattle.sedck_expressions.specs.Tree.{Tree, Trees, Byte, Any, Set, Group, Seq, Repeat, Nil, Then}
use Rattle.sedck_bre.specs.Match.{Groups, with_text, unset, IsWithin, Times, Match}

-- ---- Characters

-- a byte of a character that isn't its first one: 10xxxxxx
abbrev pub is_tail : ℕ → Bool
is_tail b = nat_lt 127 b && nat_lt b 192

-- The text has the form of one character, whose first byte says how many follow: none, one (110xxxxx), two (1110xxxx), or three. A text of this
-- form that is no character of RFC 3629, such as C0 80, is read byte by byte, which is the same where none of its bytes is repeated.
abbrev pub is_character : List ℕ → Bool
is_character (a ∷ []) = nat_lt a 128
is_character (a ∷ b ∷ []) = nat_lt 191 a && nat_lt a 224 && is_tail b
is_character (a ∷ b ∷ c ∷ []) = nat_lt 223 a && nat_lt a 240 && is_tail b && is_tail c
is_character (a ∷ b ∷ c ∷ d ∷ []) = nat_lt 239 a && is_tail b && is_tail c && is_tail d
is_character _ = false

-- what `.` takes: one character, or one byte, as of a text that isn't UTF-8
abbrev pub IsOne : List ℕ → Type 0
IsOne w = IsTrue (is_character w) ⊎ (length w ≡ 1)

-- ---- Matches

-- a character of the expression matches itself; what other bytes above 127 match is left open
abbrev pub MatchesCharacter : List ℕ → Groups → List ℕ → Groups → Type 0
MatchesCharacter c e w e' = MatchBool (is_character c) ((w ≡ c) × (e' ≡ e)) (Unit {0})

abbrev mutual
  -- As in `Match`, but that `.` takes a character, and a byte is a part of the character that it stands in. A list takes any text that isn't empty, since
  -- in some locales a collating element has several characters (XBD 9.3.5): in Danish `[^x]` takes `aa`.
  pub CharacterMatch : Tree → Groups → List ℕ → Groups → Type 0
  CharacterMatch (Byte b) e w e' = MatchesCharacter (b ∷ []) e w e'
  CharacterMatch Any e w e' = IsOne w × (e' ≡ e)
  CharacterMatch (Set bytes) e w e' = (w ≢ []) × (e' ≡ e)
  CharacterMatch (Group k body) e w e' = (d f : Groups) × ((d ≡ e) ⊎ (d ≡ unset body e)) × CharacterMatch body d w f × (e' ≡ with_text f k w)
  CharacterMatch (Seq ts) e w e' = CharacterMatchAll [] ts e w e'
  CharacterMatch (Repeat body least most) e w e' = (n : ℕ) × IsWithin least most n × Times (CharacterMatch body) n e w e'
  CharacterMatch t e w e' = Match t e w e'

  -- The trees match one after another, where the bytes before them begin a character. A repetition after these repeats all of it.
  pub CharacterMatchAll : List ℕ → Trees → Groups → List ℕ → Groups → Type 0
  CharacterMatchAll begun (Then (Byte b) ts) e w e' = MatchBool (is_character (begun ++ b ∷ []))
      ((v : List ℕ) × (w ≡ (begun ++ b ∷ []) ++ v) × CharacterMatchAll [] ts e v e')
      (CharacterMatchAll (begun ++ b ∷ []) ts e w e')
  CharacterMatchAll begun (Then (Repeat (Byte b) least most) ts) e w e' = (u v : List ℕ) × (d : Groups) × (w ≡ u ++ v)
      × ((n : ℕ) × IsWithin least most n × Times (MatchesCharacter (begun ++ b ∷ [])) n e u d) × CharacterMatchAll [] ts d v e'
  CharacterMatchAll [] Nil e w e' = (w ≡ []) × (e' ≡ e)
  CharacterMatchAll [] (Then t ts) e w e' = (u v : List ℕ) × (d : Groups) × (w ≡ u ++ v) × CharacterMatch t e u d × CharacterMatchAll [] ts d v e'
  -- a character is begun and isn't whole: what is matched is left open
  CharacterMatchAll begun ts e w e' = Unit {0}
