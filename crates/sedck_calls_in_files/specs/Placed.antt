-- Positions of findings in a file, this project's own.
use Rattle.std.specs.Prelude.{◌≡◌, ℕ, List, Option, Some, None}
use Rattle.std.specs.List.{All}
use Rattle.sedck_report.specs.Positions.{position_in}
use Rattle.sedck_report.specs.declared.finding.Finding.{Finding}
use Rattle.sedck_report.specs.declared.places.Position.{Position}

-- the line and the column are those of the offset in the file
abbrev pub IsIn : List ℕ → Position → Type 0
IsIn file position = (offset : ℕ) × (position ≡ position_in file offset)

-- the same of a position, where there is one
abbrev pub IsSomeIn : List ℕ → Option Position → Type 0
IsSomeIn file None = Unit {0}
IsSomeIn file (Some position) = IsIn file position

-- the finding has a position in the file; its end and its steps have one there or none
pub record IsFindingIn (file : List ℕ) (finding : Finding) : Type 0 where
  pub position : Position
  pub is_position : finding.position ≡ Some position
  pub is_in : IsIn file position
  pub end : IsSomeIn file finding.end
  pub steps : All (λ step. IsSomeIn file step.position) finding.steps.items
