-- How the parser's values relate to those of a reading.
use Rattle.std.specs.Prelude.{◌≡◌, ℕ, ◌<◌, nat_lt, Bool, false, if◌then◌else◌, List, Some, Result, Ok, Err, slice_index_or}
use Rattle.sedck_expressions.specs.Tree.{is_in}
use Rattle.sedck_expressions.specs.Shape as shape
use Rattle.sedck_expressions.specs.Faults.{IsOfText}
use Rattle.sedck_expressions.specs.Reading.{Stop}
use Rattle.sedck_expressions.specs.FirstFault.{fault_in}
use Rattle.sedck_expressions.specs.declared.fault.ReFault.{ReFault}
use Rattle.sedck_expressions.specs.declared.items.Position.{Position}
use Rattle.sedck_expressions.specs.declared.items.Position.TheVariants.{First, Anchored, Later}

-- what a function returned, seen by view, is what is read of a text of this length, unless memory ran out
abbrev pub Gives : {X Y : Type 0} → (X → Y) → ℕ → Result X ReFault → Result Y Stop → Type 0
Gives view size (Ok x) read = read ≡ Ok (view x)
Gives view size (Err fault) read = IsOfText fault → fault_in size read ≡ Some fault

abbrev pub position_of : Position → shape.Position
position_of First = shape.First
position_of Anchored = shape.Anchored
position_of Later = shape.Later

abbrev pub level_if : Bool → shape.Level
level_if inside = if inside then shape.Inside else shape.Whole

-- the level of a list inside of this many groups
abbrev pub level_of : ℕ → shape.Level
level_of depth = level_if (nat_lt 0 depth)

-- the flags are those of the closed groups
abbrev pub ClosedIs : List Bool → List ℕ → Type 0
ClosedIs flags closed = (k : ℕ) → k < 256 → slice_index_or flags k false ≡ is_in k closed
