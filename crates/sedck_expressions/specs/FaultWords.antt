-- How a fault of an expression is printed: by its number, its name and its place.
use Rattle.std.specs.Prelude.{ℕ, List, ◌++◌, Option, Some, None, decimal, codes}
use Rattle.sedck_expressions.specs.declared.fault.ReFault.{ReFault}
use Rattle.sedck_expressions.specs.declared.fault.ReFault.TheVariants.{TrailingBackslash, BadEscape, UnclosedBracket, BadBracket, EmptySet, UnclosedGroup, UnopenedGroup, BadInterval, NothingToRepeat, DoubleRepeat, BadReference, TooDeep, TooManyGroups, OutOfMemory}

-- the number, the name and the place of a fault; users may rely on the number and the name
abbrev pub fault_row : ReFault → ℕ × List ℕ × Option ℕ
fault_row (TrailingBackslash place) = (1, codes "trailing-backslash", Some place)
fault_row (BadEscape place) = (2, codes "bad-escape", Some place)
fault_row (UnclosedBracket place) = (3, codes "unclosed-bracket", Some place)
fault_row (BadBracket place) = (4, codes "bad-bracket", Some place)
fault_row (EmptySet place) = (5, codes "empty-set", Some place)
fault_row (UnclosedGroup place) = (6, codes "unclosed-group", Some place)
fault_row (UnopenedGroup place) = (7, codes "unopened-group", Some place)
fault_row (BadInterval place) = (8, codes "bad-interval", Some place)
fault_row (NothingToRepeat place) = (9, codes "nothing-to-repeat", Some place)
fault_row (DoubleRepeat place) = (10, codes "double-repeat", Some place)
fault_row (BadReference place) = (11, codes "bad-reference", Some place)
fault_row (TooDeep place) = (12, codes "too-deep", Some place)
fault_row (TooManyGroups place) = (13, codes "too-many-groups", Some place)
fault_row OutOfMemory = (14, codes "out-of-memory", None)

abbrev pub fault_number : ReFault → ℕ
fault_number f = (fault_row f).0

abbrev pub fault_name : ReFault → List ℕ
fault_name f = (fault_row f).1

abbrev pub fault_place : ReFault → Option ℕ
fault_place f = (fault_row f).2

-- what follows the name
abbrev pub place_words : Option ℕ → List ℕ
place_words None = codes ""
place_words (Some place) = codes " at " ++ decimal place

-- `fault NUMBER NAME at PLACE`, or without a place
abbrev pub fault_words : ReFault → List ℕ
fault_words fault = codes "fault " ++ decimal (fault_number fault) ++ codes " " ++ fault_name fault ++ place_words (fault_place fault)
