-- The request that the words of the command line are, this project's own.
use Rattle.std.specs.Prelude.{◌≡◌, ◌&&◌, ◌||◌, not, ℕ, Bool, true, false, List, [], ◌∷◌, map, Option, Some, None, option_map, codes}
use Rattle.std.specs.Str.{bytes_eq}
use Rattle.sedck_report.specs.Codes.{name_of}
use Rattle.sedck_report.specs.declared.code.Code.{Code}
use Rattle.sedck_report.specs.declared.code.Code.TheVariants as code
use Rattle.sedck_errors.specs.declared.denied.Denied.{Denied}
use Rattle.sedck_errors.specs.declared.warnings.DeniedWarnings.{DeniedWarnings}
use Rattle.sedck_calls_in_files.specs.Judged.{AskedOfCalls}
use Rattle.sedck_explain_cli.specs.Readings.{Asked, is_among, read}
use Rattle.sedck_explain_cli.specs.declared.format.Format.{Format}
use Rattle.sedck_explain_cli.specs.declared.format.Format.TheVariants as format
use Rattle.sedck_explain_cli.specs.declared.request.Request.{Request}

-- the path of the request's certificate, if it has one
abbrev pub certificate_of : Request → Option (List ℕ)
certificate_of request = option_map (λ path. path.now) request.certificate

-- the paths of its scripts, in their order
abbrev pub scripts_of : Request → List (List ℕ)
scripts_of request = map (λ path. path.now) request.scripts.items

-- what it asks of calls in files
abbrev pub asked_by : Request → AskedOfCalls
asked_by request = record { denied = request.denied; assumed = request.assumed.items }

-- a character is a byte in the locale of this name
abbrev pub has_bytes : Option (List ℕ) → Bool
has_bytes None = false
has_bytes (Some name) = bytes_eq name (codes "C") || bytes_eq name (codes "POSIX")

-- The warnings with this code are denied, by its name or with all, and aren't allowed. In whatever order: what is allowed isn't denied.
abbrev pub is_denied_code : (denied allowed : List (List ℕ)) → Code → Bool
is_denied_code denied allowed c = (is_among denied (codes "warnings") || is_among denied (name_of c)) && not (is_among allowed (name_of c))

abbrev pub warnings_by : (denied allowed : List (List ℕ)) → DeniedWarnings
warnings_by denied allowed = record {
  options_in_first_line = is_denied_code denied allowed code.OptionsInFirstLine;
  brace_behind_label = is_denied_code denied allowed code.BraceBehindLabel;
  looks_extended = is_denied_code denied allowed code.LooksExtended;
  one_line_text = is_denied_code denied allowed code.OneLineText;
  silencing_comment = is_denied_code denied allowed code.SilencingComment;
  locale = is_denied_code denied allowed code.Locale;
  backslash_in_list = is_denied_code denied allowed code.BackslashInList;
  class_without_list = is_denied_code denied allowed code.ClassWithoutList;
  range_in_y = is_denied_code denied allowed code.RangeInY;
  stream_name = is_denied_code denied allowed code.StreamName;
  device_name = is_denied_code denied allowed code.DeviceName;
  absolute_name = is_denied_code denied allowed code.AbsoluteName;
  upward_name = is_denied_code denied allowed code.UpwardName;
  unprintable_name = is_denied_code denied allowed code.UnprintableName;
  blank_at_end = is_denied_code denied allowed code.BlankAtEnd;
  command_in_name = is_denied_code denied allowed code.CommandInName;
  hidden_name = is_denied_code denied allowed code.HiddenName;
  makefile_name = is_denied_code denied allowed code.MakefileName;
  option_name = is_denied_code denied allowed code.OptionName;
  shell_byte_in_name = is_denied_code denied allowed code.ShellByteInName;
  read_and_written = is_denied_code denied allowed code.ReadAndWritten;
  same_file = is_denied_code denied allowed code.SameFile;
  names_itself = is_denied_code denied allowed code.NamesItself;
  writes_its_input = is_denied_code denied allowed code.WritesItsInput;
  unknown_code = is_denied_code denied allowed code.UnknownCode;
  in_place = is_denied_code denied allowed code.InPlace;
  others = is_among denied (codes "warnings");
}

-- what is denied by these lists of names, which have commas between, and not allowed by those, in the locale of this name
abbrev pub denied_by : List (List ℕ) → List (List ℕ) → Option (List ℕ) → Denied
denied_by lists allowed locale = record {
  reads = is_among lists (codes "reads");
  writes = is_among lists (codes "writes");
  warnings = warnings_by lists allowed;
  unbounded = is_among lists (codes "unbounded");
  growing = is_among lists (codes "growing");
  slow = is_among lists (codes "slow");
  references = is_among lists (codes "references");
  c_locale = has_bytes locale;
}

-- the format in which an accepted script is written in its plain spelling
abbrev pub is_plain_name : Option (List ℕ) → Bool
is_plain_name None = false
is_plain_name (Some name) = bytes_eq name (codes "sed")

abbrev pub is_plain : Format → Bool
is_plain format.Sed = true
is_plain _ = false

abbrev pub is_some_plain : Option Format → Bool
is_some_plain None = false
is_some_plain (Some f) = is_plain f

-- where a script is missing, it is standard input
abbrev pub paths_of : Bool → List (List ℕ) → List (List ℕ)
paths_of false [] = codes "-" ∷ []
paths_of may_be_none paths = paths

-- the request is for this: it has all that its status depends on
pub record AsksFor (asked : Asked) (request : Request) : Type 0 where
  pub certificate : certificate_of request ≡ asked.certificate
  pub denied : request.denied ≡ denied_by asked.denied asked.allowed asked.locale
  pub plain : is_plain request.format ≡ is_plain_name asked.format
  pub sed : request.sed ≡ asked.sed
  pub calls : request.calls ≡ asked.calls
  pub mends : request.mends ≡ asked.mends
  pub scripts : scripts_of request ≡ paths_of (asked.sed || asked.calls) asked.paths

-- the request that these words are
abbrev pub IsRequest : List (List ℕ) → Request → Type 0
IsRequest words request = AsksFor (read words) request
