-- Machines whose spaces and lines are within lengths.
use Rattle.std.specs.Prelude.{ℕ, ◌≤◌, ◌++◌, List, length}
use Rattle.sedck_flow.specs.Run.{Machine}
use Rattle.sedck_flow.specs.WideRun.{all_lines}
use Rattle.sedck_flow.specs.Spaces.{longest}

-- the lines that are left in the current file and in those after it
abbrev pub lines_left : Machine → List (List ℕ)
lines_left m = m.unread ++ all_lines m.later

-- both spaces and each line that is left have lengths of at most this
pub record Fits (line space : ℕ) (m : Machine) : Type 0 where
  pub lines : longest (lines_left m) ≤ line
  pub pattern : length m.pattern ≤ space
  pub hold : length m.hold ≤ space
