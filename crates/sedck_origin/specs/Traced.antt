-- Where the bytes of a script come from, this project's own; escape sequences are those of POSIX.1-2024, XCU 2.2.4.
use Rattle.std.specs.Prelude.{ℕ, ◌+◌, ◌==◌, ◌&&◌, Bool, true, false, nat_lt, nat_le, List, [], ◌∷◌, Option, Some, None, length, slice_get, if◌then◌else◌}
use Rattle.std.specs.List.{list_any}
use Rattle.std.specs.Option.{option_map_or, option_and_then}
use Rattle.sedck_origin.specs.declared.origin.Origin.{Origin}
use Rattle.sedck_origin.specs.declared.origin.Origin.TheVariants.{At, Escape, Value, Given, Between, Hole}

-- the byte for which a backslash with this letter stands: a quote or a backslash for itself, alert, backspace, escape, form feed,
-- newline, carriage return, tab, vertical tab
abbrev pub escape_of : ℕ → Option ℕ
escape_of letter =
    if letter == 34 then Some 34
    else if letter == 39 then Some 39
    else if letter == 92 then Some 92
    else if letter == 97 then Some 7
    else if letter == 98 then Some 8
    else if letter == 101 then Some 27
    else if letter == 102 then Some 12
    else if letter == 110 then Some 10
    else if letter == 114 then Some 13
    else if letter == 116 then Some 9
    else if letter == 118 then Some 11
    else None

-- the file has the byte at the offset
abbrev pub is_at : List ℕ → ℕ → ℕ → Bool
is_at file offset byte = option_map_or (λ there. there == byte) (slice_get file offset) false

-- a backslash is there, and behind it a letter with which it stands for the byte
abbrev pub is_escape_at : List ℕ → ℕ → ℕ → Bool
is_escape_at file offset byte =
    is_at file offset 92
    && option_map_or (λ letter. option_map_or (λ there. there == byte) (escape_of letter) false) (slice_get file (offset + 1)) false

-- it is an origin of the byte, where those of the bytes before end before `from`
abbrev pub has_origin : List ℕ → ℕ → ℕ → Origin → Bool
has_origin file from byte (At offset) = nat_le from offset && is_at file offset byte
has_origin file from byte (Escape offset) = nat_le from offset && is_escape_at file offset byte
has_origin file from byte (Value offset) = is_at file offset byte
has_origin file from byte Given = true
has_origin file from byte Between = byte == 10
has_origin file from byte (Hole hole) = nat_le from hole.start && nat_lt hole.start hole.end && nat_le hole.end (length file)

-- where the origin of the next byte may begin, in a file of so many bytes
abbrev pub next_after : ℕ → ℕ → Origin → ℕ
next_after bytes from (At offset) = if nat_lt offset bytes then offset + 1 else from
next_after bytes from (Escape offset) = if nat_lt offset bytes then offset + 1 else from
next_after bytes from (Value offset) = from
next_after bytes from Given = from
next_after bytes from Between = from
next_after bytes from (Hole hole) = hole.start

-- each byte has its origin, one after another: those in the file increase, but that several bytes may take the place of one hole
abbrev pub is_traced_from : List ℕ → ℕ → List ℕ → List Origin → Bool
is_traced_from file from [] [] = true
is_traced_from file from (byte ∷ bytes) (origin ∷ origins) =
    has_origin file from byte origin && is_traced_from file (next_after (length file) from origin) bytes origins
is_traced_from file from [] (origin ∷ origins) = false
is_traced_from file from (byte ∷ bytes) [] = false

abbrev pub is_traced : List ℕ → List ℕ → List Origin → Bool
is_traced file bytes origins = is_traced_from file 0 bytes origins

abbrev pub is_hole : Origin → Bool
is_hole (Hole hole) = true
is_hole _ = false

-- a byte takes the place of what isn't known
abbrev pub has_hole : List Origin → Bool
has_hole origins = list_any is_hole origins
