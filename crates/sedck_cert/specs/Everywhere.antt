-- What an accepted certificate promises of a script wherever it is run: on several files, with lines that end with any byte, and in a locale of UTF-8.
use Rattle.std.specs.Prelude.{ℕ, ◌+◌, ◌*◌, ◌≤◌, List, length, Option, Some, None}
use Rattle.sedck_script.specs.Program.{Program}
use Rattle.sedck_script.specs.ByteSafe.{IsByteSafe}
use Rattle.sedck_flow.specs.Run.{Files, State, Event}
use Rattle.sedck_flow.specs.WideRun.{WideRun, all_lines}
use Rattle.sedck_flow.specs.CharacterRun.{CharacterRun}
use Rattle.sedck_flow.specs.Spaces.{bytes_of}
use Rattle.sedck_cert.specs.Text.{FileLists}
use Rattle.sedck_cert.specs.Headline.{AreSafe}
use Rattle.sedck_cert.specs.declared.limits.Bound.{Bound}

-- The promise: on every finite list of files, whichever byte ends lines, for the runs of any script in the POSIX locale, and for those of one that is
-- byte safe by characters of UTF-8.
pub record IsSafeEverywhere (p : Program) (listed : FileLists) : Type 0 where
  pub by_bytes : (d : ℕ) → AreSafe p listed (WideRun p d)
  pub by_characters : IsByteSafe p → (d : ℕ) → AreSafe p listed (CharacterRun p d)

-- no run has more steps, by the bytes of the lines of all files, what ends them not counted, and by their number
abbrev pub BoundsAllRuns : Bound → (Files → List (Event × State) → Type 0) → Type 0
BoundsAllRuns b IsRun = (files : Files) (steps : List (Event × State)) → IsRun files steps
    → length steps ≤ b.per_byte * bytes_of (all_lines files) + b.per_line * length (all_lines files) + b.fixed

-- the same of both kinds of runs
pub record BoundsEverywhere (p : Program) (b : Bound) : Type 0 where
  pub by_bytes : (d : ℕ) → BoundsAllRuns b (WideRun p d)
  pub by_characters : IsByteSafe p → (d : ℕ) → BoundsAllRuns b (CharacterRun p d)

-- a limit is one everywhere
abbrev pub IsLimitEverywhere : Program → Option Bound → Type 0
IsLimitEverywhere p (Some bound) = BoundsEverywhere p bound
IsLimitEverywhere p None = Unit {0}
