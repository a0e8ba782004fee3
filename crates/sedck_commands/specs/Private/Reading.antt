-- What the readers say of ends of a text, and of labels.
use Rattle.std.specs.Prelude.{◌≡◌, ℕ, List, ◌++◌}
use Rattle.sedck_commands.specs.Parts.{Ends}
pub use Rattle.sedck_commands.specs.FirstFaults.{IsLabelAt}
use Rattle.sedck_commands.specs.ReadAlike.{HasSingleComment}

-- the text ends in tail
abbrev pub EndsIn : List ℕ → List ℕ → Type 0
EndsIn text tail = (front : List ℕ) × (text ≡ front ++ tail)

-- the end after the flags of a substitution
abbrev pub EndsFlags : List ℕ → List ℕ → Type 0
EndsFlags text rest = Ends text rest × HasSingleComment rest
