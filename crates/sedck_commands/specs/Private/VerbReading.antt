-- What the readers of verbs say of what they read.
use Rattle.std.specs.Prelude.{◌≡◌, ◌≢◌, ℕ, Bool, false, List, length, Some, None, IfSome}
use Rattle.std.specs.Borrow.{Bor}
use Rattle.std.specs.HashMap.{HashMap}
use Rattle.sedck_commands.specs.Program.{Label}
use Rattle.sedck_commands.specs.Parts.{DelimitedList, FirstList}
use Rattle.sedck_commands.specs.Items.{WrittenVerb, Known, JumpTo, Opening}
use Rattle.sedck_commands.specs.Labels.{label_place}
use Rattle.sedck_commands.specs.View.{verb_of}
use Rattle.sedck_commands.specs.declared.items.Written.{Written as WrittenCode}
use Rattle.sedck_commands.specs.declared.items.Written.TheVariants as code

-- a `}` is right after the label of a branch or a test
abbrev pub is_braced : WrittenVerb → Bool
is_braced (Known verb) = false
is_braced (JumpTo tests label braced) = braced
is_braced Opening = false

-- two lists after the delimiter of a `y`, equally long
pub record AreLists (delimiter : ℕ) (text from to rest : List ℕ) : Type 0 where
  pub behind : List ℕ
  pub first : FirstList delimiter text from behind
  pub second : DelimitedList delimiter behind to rest
  pub equal : length from ≡ length to

-- The verb defines no label that the map has: a label is none of the known verbs.
abbrev pub IsFreshIn : {S : Type 0} → HashMap (Bor (List ℕ)) ℕ S → WrittenCode → Type 0
IsFreshIn labels (code.Known verb) = (name : List ℕ) → verb_of verb ≢ Label name
IsFreshIn labels (code.Label name) = label_place labels name.now ≡ None
IsFreshIn labels (code.JumpTo jump) = Unit {0}
IsFreshIn labels code.Opening = Unit {0}

-- the map has the label
abbrev pub HasLabel : {S : Type 0} → HashMap (Bor (List ℕ)) ℕ S → List ℕ → Type 0
HasLabel labels name = (at : ℕ) × (label_place labels name ≡ Some at)

-- a `}` right after the label is at this offset
abbrev pub IsBracedAt : ℕ → WrittenCode → Type 0
IsBracedAt offset (code.JumpTo jump) = IfSome jump.brace (λ place. place ≡ offset)
IsBracedAt offset (code.Known verb) = Unit {0}
IsBracedAt offset (code.Label name) = Unit {0}
IsBracedAt offset code.Opening = Unit {0}
