-- The options of seds, by letter and by name: those of POSIX.1-2024 (XCU sed, "Options": -E, -n, -e, -f) and those of the seds of GNU,
-- BusyBox and the BSDs.
use Rattle.std.specs.Prelude.{ℕ, ◌==◌, ◌&&◌, ◌||◌, nat_eq, nat_le, Bool, List, length, codes, Option, Some, None, if◌then◌else◌}
use Rattle.std.specs.List.{starts_with}
use Rattle.sedck_call.specs.declared.option.CallOption.{CallOption}
use Rattle.sedck_call.specs.declared.option.CallOption.TheVariants as option
use Rattle.sedck_call.specs.declared.option.Taken.{Taken}
use Rattle.sedck_call.specs.declared.option.Taken.TheVariants as taken

abbrev pub taken_by : CallOption → Taken
taken_by option.Expression = taken.Argument
taken_by option.File = taken.Argument
taken_by option.InPlaceSuffix = taken.Argument
taken_by option.LineLength = taken.Argument
taken_by option.InPlace = taken.Suffix
taken_by _ = taken.Nothing

abbrev pub short_option : ℕ → Option CallOption
short_option b =
    if b == 110 then Some option.Quiet  -- n
    else if b == 101 then Some option.Expression  -- e
    else if b == 102 then Some option.File  -- f
    else if (b == 69) || (b == 114) then Some option.Extended  -- E, r
    else if b == 105 then Some option.InPlace  -- i
    else if b == 73 then Some option.InPlaceSuffix  -- I
    else if b == 115 then Some option.Separate  -- s
    else if b == 122 then Some option.NullData  -- z
    else if b == 117 then Some option.Unbuffered  -- u
    else if b == 108 then Some option.LineLength  -- l
    else if b == 98 then Some option.Binary  -- b
    else if b == 97 then Some option.Delayed  -- a
    else None

-- the name is the first bytes of the whole name, at least so many of them that no other option's name begins with them
abbrev pub abbreviates : List ℕ → List ℕ → ℕ → Bool
abbreviates name whole least = nat_le least (length name) && starts_with nat_eq whole name

abbrev pub script_option : List ℕ → Option CallOption
script_option name =
    if abbreviates name (codes "expression") 1 then Some option.Expression
    else if abbreviates name (codes "file") 2 then Some option.File
    else if abbreviates name (codes "in-place") 1 then Some option.InPlace
    else if abbreviates name (codes "follow-symlinks") 2 then Some option.FollowLinks
    else if abbreviates name (codes "help") 1 then Some option.Help
    else if abbreviates name (codes "version") 1 then Some option.Version
    else None

abbrev pub line_option : List ℕ → Option CallOption
line_option name =
    if abbreviates name (codes "quiet") 1 then Some option.Quiet
    else if abbreviates name (codes "silent") 2 then Some option.Quiet
    else if abbreviates name (codes "separate") 2 then Some option.Separate
    else if abbreviates name (codes "null-data") 1 then Some option.NullData
    else if abbreviates name (codes "zero-terminated") 1 then Some option.NullData
    else None

abbrev pub reading_option : List ℕ → Option CallOption
reading_option name =
    if abbreviates name (codes "regexp-extended") 1 then Some option.Extended
    else if abbreviates name (codes "posix") 1 then Some option.Posix
    else if abbreviates name (codes "sandbox") 2 then Some option.Sandbox
    else if abbreviates name (codes "debug") 1 then Some option.Debug
    else None

abbrev pub output_option : List ℕ → Option CallOption
output_option name =
    if abbreviates name (codes "unbuffered") 1 then Some option.Unbuffered
    else if abbreviates name (codes "binary") 1 then Some option.Binary
    else if abbreviates name (codes "line-length") 1 then Some option.LineLength
    else None

-- the first that there is
abbrev pub either_option : Option CallOption → Option CallOption → Option CallOption
either_option (Some first) second = Some first
either_option None second = second

-- the option of a long name
abbrev pub long_option : List ℕ → Option CallOption
long_option name = either_option (script_option name) (either_option (line_option name) (either_option (reading_option name) (output_option name)))
