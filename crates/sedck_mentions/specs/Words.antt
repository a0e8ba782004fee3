-- Words for a sed, by the bytes beside them, this project's own: no shell is asked.
use Rattle.std.specs.Prelude.{ℕ, ◌==◌, ◌-◌, ◌&&◌, ◌||◌, not, nat_eq, nat_le, Bool, true, false, List, length, take, drop, codes, slice_get}
use Rattle.std.specs.List.{starts_with, ends_with}
use Rattle.std.specs.Option.{option_map_or}

-- ---- Bytes

-- a byte of a variable's name: a letter, a digit or `_`
abbrev pub is_name_byte : ℕ → Bool
is_name_byte b = (nat_le 48 b && nat_le b 57) || ((nat_le 65 b && nat_le b 90) || ((b == 95) || (nat_le 97 b && nat_le b 122)))

-- a byte of a word: also `-` or `.`
abbrev pub is_word_byte : ℕ → Bool
is_word_byte b = is_name_byte b || ((b == 45) || (b == 46))

-- a byte of a path: also `/`
abbrev pub is_path_byte : ℕ → Bool
is_path_byte b = is_word_byte b || (b == 47)

-- the first byte is such a one
abbrev pub starts_in : (ℕ → Bool) → List ℕ → Bool
starts_in is after = option_map_or is (slice_get after 0) false

-- the last byte is such a one
abbrev pub ends_in : (ℕ → Bool) → List ℕ → Bool
ends_in is before = option_map_or is (slice_get before (length before - 1)) false

-- ---- A word between two texts: what is before it, and what is from it on

-- the text begins with the name, and neither a word nor a path goes on after it
abbrev pub is_whole : List ℕ → List ℕ → Bool
is_whole after name = starts_with nat_eq after name && not (starts_in is_path_byte (drop (length name) after))

-- the text begins with the name of a variable, which doesn't go on after it
abbrev pub is_name : List ℕ → List ℕ → Bool
is_name after name = starts_with nat_eq after name && not (starts_in is_name_byte (drop (length name) after))

-- the name of a sed
abbrev pub is_program : List ℕ → Bool
is_program after = is_whole after (codes "sed") || (is_whole after (codes "gsed") || is_whole after (codes "ssed"))

-- what stands for the value of SED: in a shell, in make, and in a file that `configure` fills in
abbrev pub is_variable : List ℕ → Bool
is_variable after =
    is_name after (codes "$SED")
    || (is_name after (codes "${SED") || (is_name after (codes "$(SED") || starts_with nat_eq after (codes "@SED@")))

-- a word for a sed: its name, which no word ends before, or what stands for the value of SED
abbrev pub is_word : List ℕ → List ℕ → Bool
is_word before after = (is_program after && not (ends_in is_word_byte before)) || is_variable after

-- ---- Words that plainly run nothing, by what is right before them

-- a command may begin after this text: it doesn't end in a word, a `$` or a `=`
abbrev pub may_run_before : List ℕ → Bool
may_run_before before =
    option_map_or (λ b. not (is_word_byte b) && (not (b == 36) && not (b == 61))) (slice_get before (length before - 1)) true

abbrev pub is_right_after : List ℕ → List ℕ → Bool
is_right_after before text = ends_with nat_eq before text && may_run_before (take (length before - length text) before)

-- It is the value of SED, which runs only where that variable stands: such a place is told. Or it is looked for by a command that prints
-- where it is.
abbrev pub is_idle : List ℕ → Bool
is_idle before =
    is_right_after before (codes "SED=")
    || (is_right_after before (codes "SED=\"")
    || (is_right_after before (codes "SED='")
    || (is_right_after before (codes "SED = ")
    || (is_right_after before (codes "SED := ")
    || (is_right_after before (codes "command -v ")
    || (is_right_after before (codes "which ")
    || is_right_after before (codes "type ")))))))
