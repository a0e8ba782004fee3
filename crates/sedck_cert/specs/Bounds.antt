-- The limits on the steps of a steady script and of a falling one. The rules are this project's own; why they suffice are the laws
-- `steady_runs_are_counted` and `falling_runs_are_counted`.
use Rattle.std.specs.Prelude.{◌≡◌, ℕ, ◌+◌, ◌*◌, ◌≤◌, List, length, Option, Some, None}
use Rattle.sedck_script.specs.Program.{Program}
use Rattle.sedck_flow.specs.Run.{State, Event, Run}
use Rattle.sedck_flow.specs.Spaces.{bytes_of}
use Rattle.sedck_cert.specs.Certificate.{Certificate}
use Rattle.sedck_cert.specs.Ranked.{IsFalling}
use Rattle.sedck_cert.specs.StepLimit.{greatest_first, greatest_second}
use Rattle.sedck_cert.specs.declared.limits.Bound.{Bound}

-- the numbers of a certificate's bound, by its greatest ranks
pub record IsBoundOf (c : Certificate) (b : Bound) : Type 0 where
  pub per_byte : b.per_byte ≡ greatest_second c.ranks + 1
  pub per_line : b.per_line ≡ (greatest_second c.ranks + 1) * (greatest_first c.ranks + 2)
  pub fixed : b.fixed ≡ greatest_second c.ranks + 1

-- no run has more steps, by the bytes of its lines, newlines not counted, and by their number
abbrev pub BoundsRuns : Program → Bound → Type 0
BoundsRuns p b = (lines : List (List ℕ)) (steps : List (Event × State)) → Run p lines steps
    → length steps ≤ b.per_byte * bytes_of lines + b.per_line * length lines + b.fixed

-- the numbers of a falling script's limit, by its greatest first rank: nothing for a byte
pub record IsBoundByLines (c : Certificate) (b : Bound) : Type 0 where
  pub per_byte : b.per_byte ≡ 0
  pub per_line : b.per_line ≡ greatest_first c.ranks + 1
  pub fixed : b.fixed ≡ 1

-- the limit on the steps by the lines alone, where the script is falling, and none where it isn't
abbrev pub IsLimitByLines : Program → Certificate → Option Bound → Type 0
IsLimitByLines p c (Some bound) = IsFalling p c × IsBoundByLines c bound × BoundsRuns p bound
IsLimitByLines p c None = ¬ IsFalling p c
