-- Which fault is reported of a text that spells no expression (ours).
use Rattle.std.specs.Prelude.{ℕ, ◌-◌, false, List, length, Option, Some, None, Result, Ok, Err}
use Rattle.sedck_expressions.specs.declared.fault.ReFault.{ReFault}
use Rattle.sedck_expressions.specs.Reading.{Stop, Readers, read}
use Rattle.sedck_expressions.specs.BracketReading.{bracket_at}
use Rattle.sedck_expressions.specs.IntervalReading.{interval_at}

-- the readers of bracket lists and of intervals, where the limits are kept
abbrev pub full : Readers
full = record { bracket = bracket_at; interval = interval_at; unlimited = false }

-- the fault with its place in a text of this length
abbrev pub placed : ℕ → Stop → ReFault
placed size (fault, left) = fault (size - length left)

-- the fault at which the reading of a text of this length stops
abbrev pub fault_in : {A : Type 0} → ℕ → Result A Stop → Option ReFault
fault_in size (Ok x) = None
fault_in size (Err stop) = Some (placed size stop)

-- the first fault of the text, from left to right
unfoldable pub first_fault : List ℕ → Option ReFault
first_fault text = fault_in (length text) (read full text)
