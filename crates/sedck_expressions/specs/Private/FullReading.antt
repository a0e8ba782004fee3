-- How a whole expression is read without the limits, and a bracket list as an item.
use Rattle.std.specs.Prelude.{ℕ, true, List, Result}
use Rattle.sedck_expressions.specs.Tree.{Tree}
use Rattle.sedck_expressions.specs.Reading.{Stop, ◌>>=◌, Readers, set_before}
use Rattle.sedck_expressions.specs.BracketReading.{bracket_at}
use Rattle.sedck_expressions.specs.IntervalReading.{interval_at}

-- the readers of bracket lists and of intervals, where the limits aren't kept
abbrev pub free : Readers
free = record { bracket = bracket_at; interval = interval_at; unlimited = true }

-- a bracket list as an item
abbrev pub set_at : List ℕ → Result (Tree × List ℕ) Stop
set_at text = bracket_at text >>= set_before
