-- Which warnings a caller denies, this project's own.
use Rattle.std.specs.Prelude.{Bool, false}
use Rattle.sedck_report.specs.declared.code.Code.{Code}
use Rattle.sedck_report.specs.declared.code.Code.TheVariants as code
use Rattle.sedck_errors.specs.declared.warnings.DeniedWarnings.{DeniedWarnings}

-- warnings with this code are denied
abbrev pub denies : DeniedWarnings → Code → Bool
denies w code.OptionsInFirstLine = w.options_in_first_line
denies w code.BraceBehindLabel = w.brace_behind_label
denies w code.LooksExtended = w.looks_extended
denies w code.OneLineText = w.one_line_text
denies w code.SilencingComment = w.silencing_comment
denies w code.Locale = w.locale
denies w code.BackslashInList = w.backslash_in_list
denies w code.ClassWithoutList = w.class_without_list
denies w code.RangeInY = w.range_in_y
denies w code.StreamName = w.stream_name
denies w code.DeviceName = w.device_name
denies w code.AbsoluteName = w.absolute_name
denies w code.UpwardName = w.upward_name
denies w code.UnprintableName = w.unprintable_name
denies w code.BlankAtEnd = w.blank_at_end
denies w code.CommandInName = w.command_in_name
denies w code.HiddenName = w.hidden_name
denies w code.MakefileName = w.makefile_name
denies w code.OptionName = w.option_name
denies w code.ShellByteInName = w.shell_byte_in_name
denies w code.ReadAndWritten = w.read_and_written
denies w code.SameFile = w.same_file
denies w code.NamesItself = w.names_itself
denies w code.WritesItsInput = w.writes_its_input
denies w code.UnknownCode = w.unknown_code
denies w code.InPlace = w.in_place
denies w _ = w.others

-- none is
abbrev pub no_warnings : DeniedWarnings
no_warnings = record {
  options_in_first_line = false;
  brace_behind_label = false;
  looks_extended = false;
  one_line_text = false;
  silencing_comment = false;
  locale = false;
  backslash_in_list = false;
  class_without_list = false;
  range_in_y = false;
  stream_name = false;
  device_name = false;
  absolute_name = false;
  upward_name = false;
  unprintable_name = false;
  blank_at_end = false;
  command_in_name = false;
  hidden_name = false;
  makefile_name = false;
  option_name = false;
  shell_byte_in_name = false;
  read_and_written = false;
  same_file = false;
  names_itself = false;
  writes_its_input = false;
  unknown_code = false;
  in_place = false;
  others = false;
}
