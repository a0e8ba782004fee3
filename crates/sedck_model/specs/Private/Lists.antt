-- Lists of spots as sets of places that a match may come to.
use Rattle.std.specs.Prelude.{◌≡◌, ℕ, ◌≤◌, length, List, ◌++◌, drop, ◌↔◌, ◌⊎◌, Contains, Option, MatchOption}
use Rattle.sedck_model.specs.declared.spots.Spot.{Spot}
use Rattle.sedck_model.specs.Spots.{Reached, reached}

-- from where to where something leads
abbrev pub Relation : Type 1
Relation = Reached → Reached → Type 0

-- one of the spots stands for it
abbrev pub Among : List ℕ → List Spot → Reached → Type 0
Among text spots to = (s : Spot) × Contains spots s × (to ≡ reached text s)

-- the relation leads there from one of the spots
abbrev pub IsLed : Relation → List ℕ → List Spot → Reached → Type 0
IsLed leads text spots to = (s : Spot) × Contains spots s × leads (reached text s) to

-- the spots are all those to which the relation leads from the first ones
abbrev pub AreLed : Relation → List ℕ → List Spot → List Spot → Type 0
AreLed leads text from spots = (to : Reached) → IsLed leads text from to ↔ Among text spots to

-- if there is a spot, it is the only one to which the relation leads, and else there is none
abbrev pub IsNext : Relation → List ℕ → Spot → Option Spot → Type 0
IsNext leads text from next =
    MatchOption next
    ((to : Reached) → leads (reached text from) to → ⊥)
    (λ s. (s.at ≤ length text) × ((to : Reached) → leads (reached text from) to ↔ (to ≡ reached text s)))

-- no spot is past the end of the text
abbrev pub AreWithin : List ℕ → List Spot → Type 0
AreWithin text spots = (s : Spot) → Contains spots s → s.at ≤ length text

-- if both lists are in a text, the new one is
abbrev pub KeepsWithin : List Spot → List Spot → List Spot → Type 0
KeepsWithin old others new = (text : List ℕ) → AreWithin text old → AreWithin text others → AreWithin text new

-- the new list has just what the old one and the other one have
abbrev pub Adds : List Spot → List Spot → List Spot → Type 0
Adds old others new = (s : Spot) → Contains new s ↔ (Contains old s ⊎ Contains others s)

-- the new list has just what the old one has, and those to which the relation leads
abbrev pub AddsLed : Relation → List ℕ → List Spot → List Spot → List Spot → Type 0
AddsLed leads text old from new = (to : Reached) → Among text new to ↔ (Among text old to ⊎ IsLed leads text from to)

-- the list has just those that are in the first one and not in the second one
pub record IsWithout (spots others left : List Spot) : Type 0 where
  pub only : (s : Spot) → Contains left s → Contains spots s
  pub new : (s : Spot) → Contains left s → Contains others s → ⊥
  pub all : (s : Spot) → Contains spots s → Contains others s ⊎ Contains left s

-- both places are in the text, and the second one isn't before the first one
pub record IsBetween (text : List ℕ) (start end : ℕ) : Type 0 where
  pub first : start ≤ length text
  pub last : end ≤ length text
  pub part : (w : List ℕ) × (drop start text ≡ w ++ drop end text)
