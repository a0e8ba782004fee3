-- How a bracket list is read from left to right (XBD 9.3.5), and where its first fault is (ours).
use Rattle.std.specs.Prelude.{ℕ, zero, suc, ◌+◌, ◌-◌, ◌==◌, nat_eq, nat_le, nat_lt, Bool, true, false, not, ◌&&◌, ◌||◌, if◌then◌else◌, List, [], ◌∷◌, ◌++◌, length, take, drop, Option, Some, None, Result, Ok, Err, codes}
use Rattle.std.specs.Option.{ok_or}
use Rattle.std.specs.List.{starts_with, ends_with}
use Rattle.sedck_text.specs.Bytes.{backslash, newline, ascii}
use Rattle.sedck_text.specs.Text.{begins}
use Rattle.sedck_expressions.specs.Tree.{bytes_where}
use Rattle.sedck_expressions.specs.Shape.{is_empty}
use Rattle.sedck_expressions.specs.Brackets.{classes, Element, One, Range, Members, is_mistakable, is_listed}
use Rattle.sedck_expressions.specs.Reading.{Stop, ◌>>=◌}
use Rattle.sedck_expressions.specs.declared.brackets.symbols.Flaw.{Flaw}
use Rattle.sedck_expressions.specs.declared.brackets.symbols.Flaw.TheVariants.{Unclosed, Bad, Escape}
use Rattle.sedck_expressions.specs.declared.fault.ReFault.TheVariants.{BadEscape, UnclosedBracket, BadBracket, EmptySet}

-- the mark and a `]` are in the text, one after another
abbrev pub is_closed : ℕ → List ℕ → Bool
is_closed mark [] = false
is_closed mark (b ∷ text) = ((b == mark) && begins "]" text) || is_closed mark text

-- why there is no class or symbol, before a text that has to end it
abbrev pub missing_end : ℕ → List ℕ → Flaw
missing_end mark text = if is_closed mark text then Bad else Unclosed

-- one byte that isn't the mark, the mark and a `]`
abbrev pub symbol_at : ℕ → List ℕ → Result (ℕ × List ℕ) Flaw
symbol_at mark (c ∷ d ∷ e ∷ text) =
    if not (c == mark) && ((d == mark) && (e == ascii "]")) then Ok (c, text) else Err (missing_end mark (d ∷ e ∷ text))
symbol_at mark _ = Err Unclosed

-- the byte that a bracket c begins, from what follows the bracket: no class is one byte
abbrev pub opened_at : ℕ → List ℕ → Result (ℕ × List ℕ) Flaw
opened_at c text =
    if begins "." text then symbol_at (ascii ".") (drop 1 text)
    else if begins ":" text then Err (missing_end (ascii ":") (drop 1 text))
    else if begins "=" text then Err (missing_end (ascii "=") (drop 2 text))
    else Ok (c, text)

-- the byte that a backslash c begins, from what follows the backslash
abbrev pub escaped_at : ℕ → List ℕ → Result (ℕ × List ℕ) Flaw
escaped_at c text =
    if begins "cdox" text then Err (Escape (length text + 1))
    else if begins "n" text then Ok (newline, drop 1 text)
    else if begins "\\" text then Ok (backslash, drop 1 text)
    else Ok (c, text)

-- a byte: itself, `\n`, `\\` or `[.c.]`
abbrev pub byte_at : List ℕ → Result (ℕ × List ℕ) Flaw
byte_at [] = Err Unclosed
byte_at (c ∷ text) = if c == ascii "[" then opened_at c text else if c == backslash then escaped_at c text else Ok (c, text)

-- what is before this text would begin a range
abbrev pub ranges : List ℕ → Bool
ranges (c ∷ d ∷ _) = (c == ascii "-") && not (d == ascii "]")
ranges _ = false

abbrev pub no_range : Element × List ℕ → Result (Element × List ℕ) Flaw
no_range (e, text) = if ranges text then Err Bad else Ok (e, text)

-- the first of these classes whose name and end the text begins with
abbrev pub class_from : List (List ℕ × (ℕ → Bool)) → List ℕ → Option (Element × List ℕ)
class_from [] text = None
class_from (c ∷ cs) text =
    if starts_with nat_eq text (c.0 ++ codes ":]") then Some (Members c, drop (length c.0 + 2) text) else class_from cs text

abbrev pub one : ℕ × List ℕ → Result (Element × List ℕ) Flaw
one (c, text) = Ok (One c, text)

abbrev pub range_to : ℕ → ℕ × List ℕ → Result (Element × List ℕ) Flaw
range_to a (z, text) = if nat_le a z then Ok (Range a z, text) else Err Bad

-- the end of a range from this byte on
abbrev pub range_end_at : ℕ → List ℕ → Result (Element × List ℕ) Flaw
range_end_at a text = byte_at text >>= range_to a

abbrev pub range_or_one : ℕ × List ℕ → Result (Element × List ℕ) Flaw
range_or_one (a, text) = if ranges text then range_end_at a (drop 1 text) else Ok (One a, text)

abbrev pub byte_or_range_at : List ℕ → Result (Element × List ℕ) Flaw
byte_or_range_at text = byte_at text >>= range_or_one

-- a class, from what follows its `[:`
abbrev pub whole_class_at : List ℕ → Result (Element × List ℕ) Flaw
whole_class_at text = ok_or (class_from classes text) (missing_end (ascii ":") text) >>= no_range

-- an equivalence class, from what follows its `[=`
abbrev pub equivalents_at : List ℕ → Result (Element × List ℕ) Flaw
equivalents_at text = symbol_at (ascii "=") text >>= one >>= no_range

-- a `-` that isn't first, from what follows it
abbrev pub last_dash_at : List ℕ → Result (Element × List ℕ) Flaw
last_dash_at text = if begins "]" text then Ok (One (ascii "-"), text) else Err (if is_empty text then Unclosed else Bad)

abbrev pub element_at : Bool → List ℕ → Result (Element × List ℕ) Flaw
element_at first text =
    if begins "[" text && begins ":" (drop 1 text) then whole_class_at (drop 2 text)
    else if begins "[" text && begins "=" (drop 1 text) then equivalents_at (drop 2 text)
    else if begins "-" text && not first then last_dash_at (drop 1 text)
    else byte_or_range_at text

-- the fault of an element, from its first byte on, in the list that begins with the outer text
abbrev pub flaw_at : List ℕ → List ℕ → Flaw → Stop
flaw_at outer text Unclosed = (UnclosedBracket, outer)
flaw_at outer text Bad = (BadBracket, text)
flaw_at outer text (Escape left) = (BadEscape, drop (length text - left) text)

abbrev pub in_list : List ℕ → List ℕ → Result (Element × List ℕ) Flaw → Result (Element × List ℕ) Stop
in_list outer text (Ok x) = Ok x
in_list outer text (Err flaw) = Err (flaw_at outer text flaw)

abbrev pub before_elements : Element → List Element × List ℕ → Result (List Element × List ℕ) Stop
before_elements e (es, text) = Ok (e ∷ es, text)

abbrev pub others : (Bool → List ℕ → Result (List Element × List ℕ) Stop) → Element × List ℕ → Result (List Element × List ℕ) Stop
others go (e, text) = go false text >>= before_elements e

-- The elements up to the closing bracket, and what follows it. The number bounds how many there are, and isn't reached where it is above the length of
-- the text.
unfoldable pub elements_at : List ℕ → ℕ → Bool → List ℕ → Result (List Element × List ℕ) Stop
elements_at outer zero first text = Err (UnclosedBracket, outer)
elements_at outer (suc n) first text =
    if begins "]" text && not first then Ok ([], drop 1 text) else (in_list outer text (element_at first text) >>= others (elements_at outer n))

-- these bytes, if there is one
abbrev pub some_of : List ℕ → List ℕ → List ℕ → Result (List ℕ × List ℕ) Stop
some_of outer [] text = Err (EmptySet, outer)
some_of outer (b ∷ bytes) text = Ok (b ∷ bytes, text)

abbrev pub set_of : List ℕ → Bool → List Element × List ℕ → Result (List ℕ × List ℕ) Stop
set_of outer complement (es, text) = some_of outer (bytes_where (is_listed complement es)) text

-- the text of the elements, up to the closing bracket before the rest
abbrev pub inside_of : List ℕ → List ℕ → List ℕ
inside_of text rest = take (length text - length rest - 1) text

-- the text of an element if it has the byte from which so many are left, and otherwise what is found after it
abbrev pub held : ℕ → List ℕ → (List ℕ → List ℕ) → Result (Element × List ℕ) Flaw → List ℕ
held left text go (Ok (e, rest)) = if nat_lt (length rest) left then text else go rest
held left text go (Err flaw) = text

-- the text from the element on that has the byte from which so many are left
unfoldable pub holder : ℕ → ℕ → Bool → List ℕ → List ℕ
holder zero left first text = text
holder (suc n) left first text = held left text (holder n left false) (element_at first text)

-- how many bytes are left from the `[` on for which a list is mistakable: it is last, or a `^` is after it
abbrev pub mistaken : List ℕ → List ℕ → ℕ
mistaken inside rest = if ends_with nat_eq inside (codes "[") then length rest + 2 else length rest + 3

-- the elements of the text, if their list isn't mistakable
abbrev pub clear_of : List ℕ → List Element × List ℕ → Result (List Element × List ℕ) Stop
clear_of text (es, rest) =
    if is_mistakable (inside_of text rest) then Err (BadBracket, holder (length text) (mistaken (inside_of text rest) rest) true text) else Ok (es, rest)

-- all elements from here on, which begin the list that begins with the outer text
abbrev pub elements_of : List ℕ → List ℕ → Result (List Element × List ℕ) Stop
elements_of outer text = elements_at outer (length text + 1) true text

-- the set of the elements, or its complement, up to the closing bracket, and what follows it
abbrev pub set_at : List ℕ → Bool → List ℕ → Result (List ℕ × List ℕ) Stop
set_at outer complement text = elements_of outer text >>= clear_of text >>= set_of outer complement

-- what follows the opening bracket: a `^` makes the complement
abbrev pub inside_at : List ℕ → List ℕ → Result (List ℕ × List ℕ) Stop
inside_at outer text = if begins "^" text then set_at outer true (drop 1 text) else set_at outer false text

-- a whole bracket list with a member
unfoldable pub bracket_at : List ℕ → Result (List ℕ × List ℕ) Stop
bracket_at text = if begins "[" text then inside_at text (drop 1 text) else Err (UnclosedBracket, text)
