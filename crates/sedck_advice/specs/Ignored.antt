-- What no comment in a script silences, this project's own: the findings for which docs/TRUST.md has one look before a yes is trusted.
use Rattle.std.specs.Prelude.{Bool, true, false}
use Rattle.sedck_report.specs.declared.code.Code.{Code}
use Rattle.sedck_report.specs.declared.code.Code.TheVariants as code

-- findings with this code are always reported
abbrev pub is_kept : Code → Bool
is_kept code.OptionsInFirstLine = true
is_kept code.Locale = true
is_kept code.BackslashInList = true
is_kept code.ClassWithoutList = true
is_kept code.RangeInY = true
is_kept code.NamesItself = true
is_kept code.WritesItsInput = true
is_kept code.LabelToTheLineEnd = true
is_kept code.LongLabels = true
is_kept _ = false
