-- The codes of findings, by name, this project's own.
use Rattle.std.specs.Prelude.{ℕ, List, codes}
use Rattle.sedck_bre.specs.FaultWords as expressions
use Rattle.sedck_script.specs.FaultWords.{fault_name}
use Rattle.sedck_commands.specs.declared.fault.ScriptFault.{ScriptFault}
use Rattle.sedck_commands.specs.declared.fault.ScriptFault.TheVariants.{BadExpression}
use Rattle.sedck_report.specs.declared.code.Code.{Code}
use Rattle.sedck_report.specs.declared.code.Code.TheVariants as code

-- the name of a script's fault: that of the expression's fault where it is in one
abbrev pub script_name : ScriptFault → List ℕ
script_name (BadExpression place cause) = expressions.fault_name cause
script_name why = fault_name why

-- users may rely on the name
abbrev pub name_of : Code → List ℕ
name_of (code.Script why) = script_name why
name_of code.BadHeader = codes "bad-header"
name_of code.BadCount = codes "bad-count"
name_of code.BadNode = codes "bad-node"
name_of code.BadNames = codes "bad-names"
name_of code.BadEnd = codes "bad-end"
name_of code.WrongCount = codes "wrong-count"
name_of code.StartUnranked = codes "start-unranked"
name_of code.LeavesRanked = codes "leaves-ranked"
name_of code.NotLowered = codes "not-lowered"
name_of code.ReadsDiffer = codes "reads-differ"
name_of code.WritesDiffer = codes "writes-differ"
name_of code.LoopIdle = codes "loop-idle"
name_of code.LoopGrowing = codes "loop-growing"
name_of code.DeniedReads = codes "denied-reads"
name_of code.DeniedWrites = codes "denied-writes"
name_of code.DeniedUnbounded = codes "denied-unbounded"
name_of code.DeniedGrowing = codes "denied-growing"
name_of code.DeniedWarnings = codes "denied-warnings"
name_of code.DeniedSlow = codes "denied-slow"
name_of code.DeniedReferences = codes "denied-references"
name_of code.NoPlainSpelling = codes "no-plain-spelling"
name_of code.OptionsInFirstLine = codes "options-in-first-line"
name_of code.BraceBehindLabel = codes "brace-behind-label"
name_of code.LooksExtended = codes "looks-extended"
name_of code.OneLineText = codes "one-line-text"
name_of code.SilencingComment = codes "silencing-comment"
name_of code.Locale = codes "locale"
name_of code.BackslashInList = codes "backslash-in-list"
name_of code.ClassWithoutList = codes "class-without-list"
name_of code.RangeInY = codes "range-in-y"
name_of code.StreamName = codes "stream-name"
name_of code.DeviceName = codes "device-name"
name_of code.AbsoluteName = codes "absolute-name"
name_of code.UpwardName = codes "upward-name"
name_of code.UnprintableName = codes "unprintable-name"
name_of code.BlankAtEnd = codes "blank-at-end"
name_of code.CommandInName = codes "command-in-name"
name_of code.HiddenName = codes "hidden-name"
name_of code.MakefileName = codes "makefile-name"
name_of code.OptionName = codes "option-name"
name_of code.ShellByteInName = codes "shell-byte-in-name"
name_of code.ReadAndWritten = codes "read-and-written"
name_of code.SameFile = codes "same-file"
name_of code.NamesItself = codes "names-itself"
name_of code.WritesItsInput = codes "writes-its-input"
name_of code.UnknownCode = codes "unknown-code"
name_of code.OtherLanguage = codes "other-language"
name_of code.BadCall = codes "bad-call"
name_of code.InPlace = codes "in-place"
name_of code.OpenHole = codes "open-hole"
name_of code.Unknowable = codes "unknowable"
name_of code.KnownValue = codes "known-value"
name_of code.NotUnderstood = codes "not-understood"
name_of code.NoBound = codes "no-bound"
name_of code.NoSpaceBound = codes "no-space-bound"
name_of code.LabelToTheLineEnd = codes "label-to-the-line-end"
name_of code.LongLabels = codes "long-labels"
