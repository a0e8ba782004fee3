-- Lines of a file, and the words for a sed in it, this project's own.
use Rattle.std.specs.Prelude.{ℕ, suc, zero, ◌==◌, ◌&&◌, ◌||◌, not, nat_eq, Bool, false, List, take, drop, codes, slice_get, if◌then◌else◌}
use Rattle.std.specs.List.{starts_with, prefix_len}
use Rattle.std.specs.Option.{option_map_or}
use Rattle.sedck_mentions.specs.Words.{is_path_byte, is_name, is_word, is_idle}

-- where the bytes right before an offset begin that are all such ones
abbrev pub start_of : (ℕ → Bool) → List ℕ → ℕ → ℕ
start_of is file zero = 0
start_of is file (suc n) = if option_map_or is (slice_get file n) false then start_of is file n else suc n

-- where the line of an offset begins
abbrev pub line_start : List ℕ → ℕ → ℕ
line_start file offset = start_of (λ b. not (b == 10)) file offset

-- where the path begins that may be before an offset
abbrev pub path_start : List ℕ → ℕ → ℕ
path_start file offset = start_of is_path_byte file offset

abbrev pub is_blank : ℕ → Bool
is_blank b = (b == 32) || (b == 9)

-- a comment begins with `#`, and where there are macros of M4 also with `dnl`
abbrev pub begins_comment : Bool → List ℕ → Bool
begins_comment has_macros text = starts_with nat_eq text (codes "#") || (has_macros && is_name text (codes "dnl"))

-- the text from the beginning of a line on is a comment, after blanks
abbrev pub is_comment : Bool → List ℕ → Bool
is_comment has_macros text = begins_comment has_macros (drop (prefix_len is_blank text) text)

-- a word for a sed begins at the offset; neither is its line a comment, nor does it plainly run nothing by what is before its path
abbrev pub is_named_at : Bool → List ℕ → ℕ → Bool
is_named_at has_macros file offset =
    is_word (take offset file) (drop offset file)
    && not (is_comment has_macros (drop (line_start file offset) file) || is_idle (take (path_start file offset) file))
