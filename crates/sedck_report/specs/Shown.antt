-- Bytes as they are shown, this project's own.
use Rattle.std.specs.Prelude.{◌==◌, ◌+◌, ◌/◌, ◌%◌, ℕ, Bool, List, [], ◌∷◌, ◌++◌, nat_lt, codes, if◌then◌else◌}
use Rattle.sedck_text.specs.Bytes.{tab, backslash}

-- printable ASCII, a blank too
abbrev pub is_printable : ℕ → Bool
is_printable b = if nat_lt b 32 then nat_lt 1 0 else nat_lt b 127

-- a digit of a number below 16
abbrev pub hexadecimal : ℕ → ℕ
hexadecimal digit = if nat_lt digit 10 then 48 + digit else 87 + digit

-- the byte itself where it is printable, else `\x` and two digits
abbrev pub shown_byte : ℕ → List ℕ
shown_byte b = if is_printable b then b ∷ [] else codes "\\x" ++ (hexadecimal (b / 16) ∷ hexadecimal (b % 16) ∷ [])

-- in a line a tab is four spaces
abbrev pub shown_in_line : ℕ → List ℕ
shown_in_line b = if b == tab then codes "    " else shown_byte b

-- in a name a backslash is two, so that the name can be read back, and no quote is alone
abbrev pub shown_in_name : ℕ → List ℕ
shown_in_name b =
    if b == backslash then codes "\\\\" else if b == 34 then codes "\\\"" else if b == 96 then codes "\\x60" else shown_byte b
