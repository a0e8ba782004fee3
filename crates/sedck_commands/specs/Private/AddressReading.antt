-- What the readers of addresses say of what they read.
use Rattle.std.specs.Prelude.{◌≡◌, ℕ, List, ◌∷◌, IsTrue}
use Rattle.sedck_commands.specs.Cuts.{is_delimiter}
use Rattle.sedck_commands.specs.Program.{Pattern, Place, Context}
use Rattle.sedck_commands.specs.Parts.{PlaceText}
use Rattle.sedck_commands.specs.FirstFaults.{IsAfterComma}
use Rattle.sedck_commands.specs.Private.PieceReading.{PatternText}

-- an address between delimiters, after the opening one
abbrev pub ContextText : ℕ → List ℕ → Place → List ℕ → Type 0
ContextText delimiter text place rest = (pattern : Pattern) × (place ≡ Context pattern) × PatternText delimiter text pattern rest

-- an address with a delimiter of its own, after its backslash
abbrev pub CustomText : List ℕ → Place → List ℕ → Type 0
CustomText text place rest = (delimiter : ℕ) × (behind : List ℕ) × (text ≡ delimiter ∷ behind) × IsTrue (is_delimiter delimiter)
    × ContextText delimiter behind place rest

-- an address after a comma
abbrev pub IsSecond : List ℕ → Place → List ℕ → Type 0
IsSecond text place rest = (second : List ℕ) × IsAfterComma text second × PlaceText second place rest
