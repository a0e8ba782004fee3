-- The runs of a script in a locale of UTF-8: those where matches are by characters, and `y` replaces characters (XCU sed, "y").
use Rattle.std.specs.Prelude.{◌≡◌, ◌⊎◌, ℕ, if◌then◌else◌, List, [], ◌∷◌, ◌++◌, All, flat_map, slice_get, Some}
use Rattle.sedck_commands.specs.Program.{Program}
use Rattle.sedck_flow.specs.Run.{Locale, Files, State, Start, Event, StepsIn}
use Rattle.sedck_flow.specs.Characters.{is_character, IsOne, CharacterMatch}

-- the characters of a text, before which these bytes begin one; last, what begins none that is whole
abbrev pub characters_from : List ℕ → List ℕ → List (List ℕ)
characters_from begun (b ∷ text) =
    if is_character (begun ++ b ∷ []) then (begun ++ b ∷ []) ∷ characters_from [] text else characters_from (begun ++ b ∷ []) text
characters_from [] [] = []
characters_from begun [] = begun ∷ []

-- both stand at one place, each in its list
abbrev pub ArePartners : List ℕ → List ℕ → List ℕ → List ℕ → Type 0
ArePartners from to c d = (i : ℕ) × (slice_get (characters_from [] from) i ≡ Some c) × (slice_get (characters_from [] to) i ≡ Some d)

-- one character, or one byte, becomes its partner, any one where it is listed twice; another one stays
pub record BecomesCharacter (from to : List ℕ) (pair : List ℕ × List ℕ) : Type 0 where
  pub is_one : IsOne pair.0
  pub becomes : ArePartners from to pair.0 pair.1 ⊎ (((d : List ℕ) → ¬ ArePartners from to pair.0 d) × (pair.1 ≡ pair.0))

abbrev pub CharacterTransliterates : (from to old new : List ℕ) → Type 0
CharacterTransliterates from to old new = (pairs : List (List ℕ × List ℕ)) × All (BecomesCharacter from to) pairs
    × (old ≡ flat_map (λ pair. pair.0) pairs) × (new ≡ flat_map (λ pair. pair.1) pairs)

abbrev pub utf_8 : Locale
utf_8 = record { Matches = CharacterMatch; Transliterates = CharacterTransliterates; Selects = λ p pattern text. Unit {0} }

abbrev pub CharacterRun : Program → ℕ → Files → List (Event × State) → Type 0
CharacterRun p d files steps = StepsIn utf_8 d p (Start files) steps
