-- What is promised of a script's plain text.
use Rattle.std.specs.Prelude.{◌≡◌, ℕ, List, Result, Err}
use Rattle.sedck_script.specs.Program.{Program}
use Rattle.sedck_script.specs.Spelling.{Spells}
use Rattle.sedck_script.specs.Faults.{IsPlaced}
use Rattle.sedck_plain.specs.WrittenLists.{HaveSameLists}
use Rattle.sedck_plain.specs.declared.plain.Fault.{Fault}
use Rattle.sedck_plain.specs.declared.plain.Fault.TheVariants as fault

-- the bytes of the script spell just one program, and those of the text spell that very program, with the bracket lists of the script
pub record SpellSame (script text : List ℕ) : Type 0 where
  pub program : Program
  pub spelled : Spells script program
  pub only : (q : Program) → Spells script q → q ≡ program
  pub same : Spells text program
  pub lists : HaveSameLists script text

abbrev pub IsOutOfMemory : {A : Type 0} → Result A Fault → Type 0
IsOutOfMemory (Err fault.OutOfMemory) = Unit {0}
IsOutOfMemory _ = ⊥

abbrev pub IsRefused : {A : Type 0} → Result A Fault → Type 0
IsRefused (Err (fault.Script why)) = Unit {0}
IsRefused _ = ⊥

-- the fault isn't that the script is refused
abbrev pub IsNoRefusal : Fault → Type 0
IsNoRefusal (fault.Script why) = ⊥
IsNoRefusal _ = Unit {0}

-- what is at the place of a refused script's fault is as the fault says
abbrev pub ReportsFault : {A : Type 0} → List ℕ → Result A Fault → Type 0
ReportsFault text (Err (fault.Script why)) = IsPlaced text why
ReportsFault text _ = Unit {0}
