-- Tests of a byte: blanks, digits and letters of the POSIX locale (POSIX.1-2024 XBD 7.3.1), and the bytes that readers of scripts skip.
use Rattle.std.specs.Prelude.{ℕ, Bool, not, ◌&&◌, ◌||◌, ◌==◌, nat_le}
use Rattle.sedck_text.specs.Text.{one_of}
use Rattle.sedck_text.specs.Bytes.{tab, newline, space, backslash, ascii}
use Rattle.sedck_text.specs.declared.class.Class.{Class}
use Rattle.sedck_text.specs.declared.class.Class.TheVariants.{Blank, Digit, Label, Mark, Separator, Plain, Except}

abbrev pub is_newline : ℕ → Bool
is_newline b = b == newline

abbrev pub is_blank : ℕ → Bool
is_blank b = (b == space) || (b == tab)

abbrev pub is_digit : ℕ → Bool
is_digit b = nat_le (ascii "0") b && nat_le b (ascii "9")

abbrev pub is_letter : ℕ → Bool
is_letter b = (nat_le (ascii "A") b && nat_le b (ascii "Z")) || (nat_le (ascii "a") b && nat_le b (ascii "z"))

-- a byte of a label (ours): a letter, a digit, `_`, `.` or `-`
abbrev pub is_label_byte : ℕ → Bool
is_label_byte b = is_letter b || (is_digit b || one_of "_.-" b)

-- what may be between two commands (XCU sed, "Editing Commands in sed")
abbrev pub is_separator : ℕ → Bool
is_separator b = is_blank b || ((b == newline) || (b == ascii ";"))

-- what may be between the addresses of a command and its verb (XCU sed, "Editing Commands in sed"; blanks there are ours)
abbrev pub is_mark : ℕ → Bool
is_mark b = is_blank b || (b == ascii "!")

-- a byte that stands for itself in a replacement with this delimiter (XCU sed, "s")
abbrev pub is_plain : ℕ → ℕ → Bool
is_plain delimiter b = not ((b == delimiter) || ((b == backslash) || ((b == newline) || (b == ascii "&"))))

-- the bytes of each class
abbrev pub is_of : Class → ℕ → Bool
is_of Blank = is_blank
is_of Digit = is_digit
is_of Label = is_label_byte
is_of Mark = is_mark
is_of Separator = is_separator
is_of (Plain delimiter) = is_plain delimiter
is_of (Except byte) = λ b. not (b == byte)
