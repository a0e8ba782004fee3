-- Exit statuses, this project's own.
use Rattle.std.specs.Prelude.{◌≢◌, ℕ, nat_le, Bool, true, false, if◌then◌else◌}
pub use Rattle.sedck_answer.specs.declared.status.Status.{Status}
pub use Rattle.sedck_answer.specs.declared.status.Status.TheVariants.{Accepted, Rejected, Refused, Misused, Failed, Unknown}

-- the number that the program ends with
abbrev pub code_of : Status → ℕ
code_of Accepted = 0
code_of Rejected = 1
code_of Refused = 2
code_of Misused = 3
code_of Failed = 4
code_of Unknown = 5

abbrev pub is_accepted : Status → Bool
is_accepted Accepted = true
is_accepted _ = false

-- it is that of an answer on a script: accepted, rejected or refused
abbrev pub IsOfAnswer : Status → Type 0
IsOfAnswer status = (status ≢ Misused) × (status ≢ Failed) × (status ≢ Unknown)

-- how bad it is
abbrev pub severity : Status → ℕ
severity Accepted = 0
severity Unknown = 1
severity Rejected = 2
severity Refused = 3
severity _ = 4

-- the worse one
abbrev pub worse : Status → Status → Status
worse one other = if nat_le (severity other) (severity one) then one else other
