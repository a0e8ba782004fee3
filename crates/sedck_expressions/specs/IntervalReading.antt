-- How an interval is read. A text that begins with `\{` and is none is a fault (ours).
use Rattle.std.specs.Prelude.{ℕ, nat_le, not, ◌&&◌, if◌then◌else◌, List, take, drop, Option, Some, None, option_and_then}
use Rattle.std.specs.List.{prefix_len}
use Rattle.std.specs.Str.Parse.{digits_value}
use Rattle.sedck_text.specs.Bytes.{ascii}
use Rattle.sedck_text.specs.Text.{begins}
use Rattle.sedck_text.specs.Classes.{is_digit}
use Rattle.sedck_expressions.specs.Shape.{is_empty}
use Rattle.sedck_expressions.specs.Reading.{begins_pair}

-- the digits at the start, and what follows them
abbrev pub digits_at : List ℕ → List ℕ × List ℕ
digits_at text = (take (prefix_len is_digit text) text, drop (prefix_len is_digit text) text)

abbrev pub number_of : List ℕ × List ℕ → Option (ℕ × List ℕ)
number_of (digits, rest) = if not (is_empty digits) && nat_le (digits_value 10 digits) 255 then Some (digits_value 10 digits, rest) else None

abbrev pub number_at : List ℕ → Option (ℕ × List ℕ)
number_at text = number_of (digits_at text)

-- what follows the comma
abbrev pub most_of : ℕ → ℕ × List ℕ → Option (ℕ × Option ℕ × List ℕ)
most_of least (most, rest) = if begins_pair (ascii "}") rest && nat_le least most then Some (least, Some most, drop 2 rest) else None

abbrev pub most_at : ℕ → List ℕ → Option (ℕ × Option ℕ × List ℕ)
most_at least text = option_and_then (most_of least) (number_at text)

abbrev pub upper_at : ℕ → List ℕ → Option (ℕ × Option ℕ × List ℕ)
upper_at least text = if begins_pair (ascii "}") text then Some (least, None, drop 2 text) else most_at least text

abbrev pub bounds_of : ℕ × List ℕ → Option (ℕ × Option ℕ × List ℕ)
bounds_of (least, rest) =
    if begins_pair (ascii "}") rest then Some (least, Some least, drop 2 rest)
    else if begins "," rest then upper_at least (drop 1 rest)
    else None

abbrev pub bounds_at : List ℕ → Option (ℕ × Option ℕ × List ℕ)
bounds_at text = option_and_then bounds_of (number_at text)

unfoldable pub interval_at : List ℕ → Option (ℕ × Option ℕ × List ℕ)
interval_at text = if begins_pair (ascii "{") text then bounds_at (drop 2 text) else None
