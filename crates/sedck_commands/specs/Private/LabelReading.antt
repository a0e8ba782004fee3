-- What the readers of labels say of what they read.
use Rattle.std.specs.Prelude.{◌≡◌, ℕ, Bool, List, Option, Some, None}
use Rattle.sedck_text.specs.Text.{begins}
use Rattle.sedck_commands.specs.Parts.{LabelText}
use Rattle.sedck_commands.specs.Items.{IsNoComment}
use Rattle.sedck_commands.specs.Private.Alike.{EndsJump}

-- a label or none after a branch or a test, whether a `}` is right after it, and its end
abbrev pub BranchText : List ℕ → Option (List ℕ) → Bool → List ℕ → Type 0
BranchText text (Some name) braced rest = (behind : List ℕ) × LabelText text name behind × IsNoComment behind × EndsJump behind rest
    × (braced ≡ begins "}" behind)
BranchText text None braced rest = IsNoComment rest × EndsJump text rest × (braced ≡ begins "}" rest)
