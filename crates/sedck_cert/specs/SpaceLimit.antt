-- How long the pattern space and the hold space may get. The rule is this project's own: `H` is the one command that lengthens the hold space, and
-- in a steady script only reading lengthens the pattern space.
use Rattle.std.specs.Prelude.{◌≡◌, ℕ, ◌+◌, ◌*◌, ◌≤◌, List, [], ◌∷◌, length, Option, Some, None, slice_get}
use Rattle.sedck_script.specs.ByteSafe.{IsByteSafe}
use Rattle.sedck_script.specs.Program.{Command, Program, HoldAppend}
use Rattle.sedck_flow.specs.Run.{Files, Machine, State, Start, At, Event, Run, state_after}
use Rattle.sedck_flow.specs.WideRun.{WideRun, all_lines}
use Rattle.sedck_flow.specs.CharacterRun.{CharacterRun}
use Rattle.sedck_flow.specs.Spaces.{bytes_of}
use Rattle.sedck_cert.specs.Certificate.{Certificate}
use Rattle.sedck_cert.specs.Ranked.{IsSteady}
use Rattle.sedck_cert.specs.declared.limits.Bound.{Bound}

-- some command of the script is `H`
abbrev pub AppendsToHold : Program → Type 0
AppendsToHold p = (at : ℕ) × (c : Command) × (slice_get p.commands at ≡ Some c) × (c.verb ≡ HoldAppend)

-- steady, and no command is `H`
pub record IsCompact (p : Program) (c : Certificate) : Type 0 where
  pub steady : IsSteady p c
  pub never_appends : ¬ AppendsToHold p

-- one byte for each byte of the lines and one for each line: the size of the input, its newlines counted
pub record IsInputSize (b : Bound) : Type 0 where
  pub per_byte : b.per_byte ≡ 1
  pub per_line : b.per_line ≡ 1
  pub fixed : b.fixed ≡ 0

-- neither space is longer
abbrev pub AreSpacesWithin : ℕ → Machine → Type 0
AreSpacesWithin size m = (length m.pattern ≤ size) × (length m.hold ≤ size)

-- in no run is one of the spaces ever longer, by the bytes of its lines, newlines not counted, and by their number
abbrev pub BoundsSpaces : Program → Bound → Type 0
BoundsSpaces p b = (lines : List (List ℕ)) (steps : List (Event × State)) → Run p lines steps
    → (m : Machine) → state_after (Start (lines ∷ [])) steps ≡ At m → AreSpacesWithin (b.per_byte * bytes_of lines + b.per_line * length lines + b.fixed) m

-- the limit on the spaces, where the script is compact, and none where it isn't
abbrev pub IsSpaceLimit : Program → Certificate → Option Bound → Type 0
IsSpaceLimit p c (Some bound) = IsCompact p c × IsInputSize bound × BoundsSpaces p bound
IsSpaceLimit p c None = ¬ IsCompact p c

-- nor in one of these runs, by the lines of all files
abbrev pub BoundsAllSpaces : Bound → (Files → List (Event × State) → Type 0) → Type 0
BoundsAllSpaces b IsRun = (files : Files) (steps : List (Event × State)) → IsRun files steps
    → (m : Machine) → state_after (Start files) steps ≡ At m
    → AreSpacesWithin (b.per_byte * bytes_of (all_lines files) + b.per_line * length (all_lines files) + b.fixed) m

-- in the POSIX locale, and by characters
pub record BoundsSpacesEverywhere (p : Program) (b : Bound) : Type 0 where
  pub by_bytes : (d : ℕ) → BoundsAllSpaces b (WideRun p d)
  pub by_characters : IsByteSafe p → (d : ℕ) → BoundsAllSpaces b (CharacterRun p d)

-- a limit is one everywhere
abbrev pub IsSpaceLimitEverywhere : Program → Option Bound → Type 0
IsSpaceLimitEverywhere p (Some bound) = BoundsSpacesEverywhere p bound
IsSpaceLimitEverywhere p None = Unit {0}
