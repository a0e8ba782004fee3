-- Lines and columns of a text, this project's own: both from 1, and a column in bytes. A newline belongs to the line that it
-- ends (POSIX.1-2024 XBD 3.185, Line).
use Rattle.std.specs.Prelude.{◌==◌, ℕ, not, List, length, take, reverse, suc}
use Rattle.std.specs.List.{take_while, filter}
use Rattle.sedck_text.specs.Bytes.{newline}
use Rattle.sedck_report.specs.declared.places.Position.{Position}

-- the number of the line that follows a text
abbrev pub line_after : List ℕ → ℕ
line_after text = suc (length (filter (λ b. b == newline) text))

-- the column that follows a text, by what it has after its last newline
abbrev pub column_after : List ℕ → ℕ
column_after text = suc (length (take_while (λ b. not (b == newline)) (reverse text)))

-- the position that follows a text
abbrev pub position_after : List ℕ → Position
position_after before = record { offset = length before; line = line_after before; column = column_after before }

-- the position of the byte at this offset; where there is none, that of the text's end
abbrev pub position_in : List ℕ → ℕ → Position
position_in text offset = position_after (take offset text)
