-- How a fault of a script is printed: by its number, its name and its place.
use Rattle.std.specs.Prelude.{ℕ, List, ◌++◌, Option, Some, None, decimal, codes}
use Rattle.sedck_bre.specs.FaultWords.{place_words, fault_words as expression_fault_words}
use Rattle.sedck_commands.specs.declared.fault.ScriptFault.{ScriptFault}
use Rattle.sedck_commands.specs.declared.fault.ScriptFault.TheVariants as fault

-- the number, the name and the place of a fault; users may rely on the number and the name
abbrev pub fault_row : ScriptFault → ℕ × List ℕ × Option ℕ
fault_row (fault.TooLong place) = (1, codes "too-long", Some place)
fault_row (fault.NulByte place) = (2, codes "nul-byte", Some place)
fault_row (fault.UnknownCommand place) = (3, codes "unknown-command", Some place)
fault_row (fault.BadAddress place) = (4, codes "bad-address", Some place)
fault_row (fault.TooManyAddresses place) = (5, codes "too-many-addresses", Some place)
fault_row (fault.BadExpression place cause) = (6, codes "bad-expression", Some place)
fault_row (fault.Unterminated place) = (7, codes "unterminated", Some place)
fault_row (fault.BadReplacement place) = (8, codes "bad-replacement", Some place)
fault_row (fault.BadFlag place) = (9, codes "bad-flag", Some place)
fault_row (fault.BadTransliteration place) = (10, codes "bad-transliteration", Some place)
fault_row (fault.MissingText place) = (11, codes "missing-text", Some place)
fault_row (fault.MissingName place) = (12, codes "missing-name", Some place)
fault_row (fault.BadLabel place) = (13, codes "bad-label", Some place)
fault_row (fault.DuplicateLabel place) = (14, codes "duplicate-label", Some place)
fault_row (fault.UnknownLabel place) = (15, codes "unknown-label", Some place)
fault_row (fault.UnopenedBlock place) = (16, codes "unopened-block", Some place)
fault_row (fault.UnclosedBlock place) = (17, codes "unclosed-block", Some place)
fault_row (fault.TooDeep place) = (18, codes "too-deep", Some place)
fault_row (fault.TooManyCommands place) = (19, codes "too-many-commands", Some place)
fault_row (fault.ExtraText place) = (20, codes "extra-text", Some place)
fault_row (fault.NoPreviousExpression place) = (21, codes "no-previous-expression", Some place)
fault_row (fault.EscapedDelimiter place) = (22, codes "escaped-delimiter", Some place)
fault_row fault.OutOfMemory = (23, codes "out-of-memory", None)

abbrev pub fault_number : ScriptFault → ℕ
fault_number f = (fault_row f).0

abbrev pub fault_name : ScriptFault → List ℕ
fault_name f = (fault_row f).1

abbrev pub fault_place : ScriptFault → Option ℕ
fault_place f = (fault_row f).2

-- after the fault of an expression, what is wrong in the expression
abbrev pub cause_words : ScriptFault → List ℕ
cause_words (fault.BadExpression place cause) = codes ": expression " ++ expression_fault_words cause
cause_words _ = codes ""

-- `fault NUMBER NAME at PLACE`, or without a place
abbrev pub fault_words : ScriptFault → List ℕ
fault_words f = codes "fault " ++ decimal (fault_number f) ++ codes " " ++ fault_name f ++ place_words (fault_place f) ++ cause_words f
