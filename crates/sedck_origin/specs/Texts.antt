-- The units of a text, this project's own.
use Rattle.std.specs.Prelude.{ℕ, List, Option, length, slice_get}
use Rattle.std.specs.Option.{option_map}
use Rattle.sedck_origin.specs.declared.unit.Unit.{Unit}
use Rattle.sedck_origin.specs.declared.unit.Unit.TheVariants.{Byte}
use Rattle.sedck_origin.specs.declared.unit.Text.{Text}
use Rattle.sedck_origin.specs.declared.unit.Text.TheVariants.{Whole, Units}

abbrev pub length_of : Text → ℕ
length_of (Whole file) = length file.now
length_of (Units units) = length units.now

-- a byte of a whole file is a unit, with its own offset
abbrev pub unit_at : Text → ℕ → Option Unit
unit_at (Whole file) index = option_map (λ byte. Byte byte index) (slice_get file.now index)
unit_at (Units units) index = slice_get units.now index
