-- Where single items, groups and repetitions lead.
use Rattle.std.specs.Prelude.{◌≡◌, ℕ, zero, suc, ◌<◌, ◌≤◌, List, ◌∷◌, ◌++◌, Option, None, Contains, IsTrue, if◌then◌else◌, slice_index_or}
use Rattle.sedck_bre.specs.Tree.{Tree, Byte, Any, Set, Maybe, Ref, is_in}
use Rattle.sedck_bre.specs.Match.{unset, with_text, text_of}
use Rattle.sedck_model.specs.declared.spots.Span.{Span}
use Rattle.sedck_model.specs.declared.spots.Spot.{Spot}
use Rattle.sedck_model.specs.Spots.{Reached, reached, groups_of}
use Rattle.sedck_model.specs.Private.Lists.{Relation, AddsLed, IsBetween}

-- the item takes this byte
abbrev pub Takes : Tree → ℕ → Type 0
Takes (Byte c) b = b ≡ c
Takes Any b = b < 256
Takes (Set bytes) b = IsTrue (is_in b bytes)
Takes (Maybe c) b = b ≡ c
Takes t b = ⊥

-- one byte that the item takes
abbrev pub Consumes : Tree → Relation
Consumes t from to = (b : ℕ) × Takes t b × (from.rest ≡ b ∷ to.rest) × (to.groups ≡ from.groups)

-- the text of the group once more
abbrev pub Repeats : ℕ → Relation
Repeats k from to = (from.rest ≡ text_of from.groups k ++ to.rest) × (to.groups ≡ from.groups)

-- where a byte or a reference leads, and a `Maybe` where it takes its byte
abbrev pub Passes : Tree → Relation
Passes (Byte c) from to = Consumes (Byte c) from to
Passes Any from to = Consumes Any from to
Passes (Set bytes) from to = Consumes (Set bytes) from to
Passes (Maybe c) from to = Consumes (Maybe c) from to
Passes (Ref k) from to = Repeats k from to
Passes t from to = ⊥

-- the group k has matched what is between the first two
abbrev pub Closes : ℕ → Reached → Relation
Closes k start end to = (w : List ℕ) × (start.rest ≡ w ++ end.rest) × (to ≡ record { rest = end.rest; groups = with_text end.groups k w })

-- so many steps of the relation
abbrev pub Steps : Relation → ℕ → Relation
Steps leads zero from to = to ≡ from
Steps leads (suc n) from to = (between : Reached) × leads from between × Steps leads n between to

-- at most so many steps
abbrev pub UpTo : Relation → ℕ → Relation
UpTo leads most from to = (n : ℕ) × (n ≤ most) × Steps leads n from to

-- any number of steps
abbrev pub Many : Relation → Relation
Many leads from to = (n : ℕ) × Steps leads n from to

-- the groups with these numbers have no span, and the others keep theirs
abbrev pub AreUnset : List ℕ → List (Option Span) → List (Option Span) → Type 0
AreUnset ks old new = (k : ℕ) → slice_index_or new k None ≡ (if is_in k ks then None else slice_index_or old k None)

-- at the second spot the groups of the tree have no text, and the others have their own
abbrev pub UnsetsGroups : Tree → Spot → Spot → Type 0
UnsetsGroups t spot new = (text : List ℕ) → groups_of text new.groups ≡ unset t (groups_of text spot.groups)

-- at the new spot the group k has the text from the start to the end, and the others have that of the end
abbrev pub SetsGroup : ℕ → Spot → Spot → Spot → Type 0
SetsGroup k start end new =
    (text : List ℕ) (between : IsBetween text start.at end.at) → groups_of text new.groups ≡ with_text (groups_of text end.groups) k between.part.0

-- the new list has just what the old one has, and for each end the place where the group k is closed
abbrev pub AddsClosed : ℕ → Spot → List Spot → List Spot → List Spot → Type 0
AddsClosed k start old ends new =
    (text : List ℕ) → ((s : Spot) → Contains ends s → IsBetween text start.at s.at) → AddsLed (Closes k (reached text start)) text old ends new
