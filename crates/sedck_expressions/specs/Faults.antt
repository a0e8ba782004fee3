-- Where the fault of a refused expression lies, this project's own.
use Rattle.std.specs.Prelude.{ℕ, ◌<◌, IsTrue, List, length, slice_index}
use Prim.Native.String.{String}
use Rattle.sedck_text.specs.Text.{one_of}
use Rattle.sedck_expressions.specs.declared.fault.ReFault.{ReFault}
use Rattle.sedck_expressions.specs.declared.fault.ReFault.TheVariants.{TrailingBackslash, BadEscape, UnclosedBracket, BadBracket, EmptySet, UnclosedGroup, UnopenedGroup, BadInterval, NothingToRepeat, DoubleRepeat, BadReference, TooDeep, TooManyGroups, OutOfMemory}

-- one of these bytes is at the offset
abbrev pub HasOneAt : List ℕ → ℕ → String → Type 0
HasOneAt text offset s = (offset < length text) × IsTrue (one_of s (slice_index text offset))

-- what is at the offset of the fault
abbrev pub IsPlaced : List ℕ → ReFault → Type 0
IsPlaced text (TrailingBackslash offset) = HasOneAt text offset "\\"
IsPlaced text (BadEscape offset) = HasOneAt text offset "\\"
IsPlaced text (UnclosedBracket offset) = HasOneAt text offset "["
IsPlaced text (BadBracket offset) = offset < length text
IsPlaced text (EmptySet offset) = HasOneAt text offset "["
IsPlaced text (UnclosedGroup offset) = HasOneAt text offset "\\"
IsPlaced text (UnopenedGroup offset) = HasOneAt text offset "\\"
IsPlaced text (BadInterval offset) = HasOneAt text offset "\\"
IsPlaced text (NothingToRepeat offset) = HasOneAt text offset "\\"
IsPlaced text (DoubleRepeat offset) = HasOneAt text offset "*\\"
IsPlaced text (BadReference offset) = HasOneAt text offset "\\"
IsPlaced text (TooDeep offset) = HasOneAt text offset "\\"
IsPlaced text (TooManyGroups offset) = HasOneAt text offset "\\"
IsPlaced text OutOfMemory = Unit {0}

-- a fault of the text: memory did not run out
abbrev pub IsOfText : ReFault → Type 0
IsOfText OutOfMemory = ⊥
IsOfText _ = Unit {0}
