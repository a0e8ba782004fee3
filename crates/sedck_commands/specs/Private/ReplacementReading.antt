-- What the readers of replacements say of what they read.
use Rattle.std.specs.Prelude.{◌≡◌, ℕ, ◌<◌, ◌≤◌, List, ◌∷◌, length, Option, Some, None, Contains}
use Rattle.sedck_commands.specs.Program.{Part, Group}
use Rattle.sedck_commands.specs.Parts.{Replacement}
use Rattle.sedck_commands.specs.FirstFaults.{IsPartWithin}

-- each group among the parts has at most this number
abbrev pub HasGroupsUpTo : ℕ → List Part → Type 0
HasGroupsUpTo greatest parts = (k : ℕ) → Contains parts (Group k) → k ≤ greatest

-- the text begins with this part of a replacement, and rest follows it
pub record IsFirstPart (delimiter greatest : ℕ) (text : List ℕ) (part : Part) (rest : List ℕ) : Type 0 where
  pub shorter : length rest < length text
  pub within : IsPartWithin greatest part
  pub sound : (parts : List Part) (r : List ℕ) → Replacement delimiter rest parts r → Replacement delimiter text (part ∷ parts) r

-- the first part of a replacement, or none at its end
abbrev pub IsNextPart : ℕ → ℕ → List ℕ → Option Part → List ℕ → Type 0
IsNextPart delimiter greatest text (Some part) rest = IsFirstPart delimiter greatest text part rest
IsNextPart delimiter greatest text None rest = text ≡ delimiter ∷ rest
