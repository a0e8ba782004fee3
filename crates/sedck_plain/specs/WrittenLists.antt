-- The bracket lists of a script as they are written. A program knows a list as a set of bytes alone, which says neither what its list is in another locale,
-- nor that a sed takes a backslash and a letter in it for one byte.
use Rattle.std.specs.Prelude.{◌≡◌, ℕ, Bool, true, false, ◌||◌, ◌==◌, if◌then◌else◌, List, [], ◌∷◌, ◌++◌}
use Rattle.sedck_text.specs.Text.{one_of}
use Rattle.sedck_text.specs.Bytes.{newline, backslash, ascii}
use Rattle.sedck_commands.specs.Program.{Place, Address}
use Rattle.sedck_commands.specs.Parts.{PlaceText, line, last, context, custom, AddressText, none, one, two}
use Rattle.sedck_commands.specs.Items.{WrittenVerb, VerbText, substitute, CommandText, Item, Items, nothing, comment, closing, command}
use Rattle.sedck_plain.specs.declared.written.Position.{Position}
use Rattle.sedck_plain.specs.declared.written.Position.TheVariants.{Outside, Escaped, Opened, Negated, Inside, Bracket, Symbol, SymbolEnd}

-- the position after a byte of a list that isn't its end
abbrev pub after_member : ℕ → Position
after_member b = if b == ascii "[" then Bracket else Inside

-- The position after a byte (XBD 9.3.5): a `]` ends a list, but for one that is first in it, after its `^` too, and one in `[.`, `[=` or `[:`, which go on
-- to the same byte and a `]`. Outside of lists a backslash takes the meaning of the byte after it away, in them it is a byte as others.
abbrev pub after : Position → ℕ → Position
after Outside b = if b == backslash then Escaped else if b == ascii "[" then Opened else Outside
after Escaped b = Outside
after Opened b = if b == ascii "^" then Negated else after_member b
after Negated b = after_member b
after Inside b = if b == ascii "]" then Outside else after_member b
after Bracket b = if one_of ".=:" b then Symbol b else if b == ascii "]" then Outside else after_member b
after (Symbol c) b = if b == c then SymbolEnd c else Symbol c
after (SymbolEnd c) b = if b == ascii "]" then Inside else if b == c then SymbolEnd c else Symbol c

-- a list has begun, and hasn't ended
abbrev pub is_in_list : Position → Bool
is_in_list Outside = false
is_in_list Escaped = false
is_in_list _ = true

-- the lists of an expression that is read from this position on, each from its `[` to its `]`, one after another
abbrev pub lists_from : Position → List ℕ → List ℕ
lists_from position [] = []
lists_from position (b ∷ text) =
    (if is_in_list position || is_in_list (after position b) then b ∷ [] else []) ++ lists_from (after position b) text

-- the lists of an expression on a line of their own: no expression has a newline in it
abbrev pub expression_lists : List ℕ → List ℕ
expression_lists expression = lists_from Outside expression ++ newline ∷ []

-- Those of the expressions of an address and of a command, in order, as the grammar cuts them out: without the backslashes of escaped delimiters.
abbrev pub place_lists : {text rest : List ℕ} {place : Place} → PlaceText text place rest → List ℕ
place_lists (line number) = []
place_lists (last is_dollar) = []
place_lists (context {expression = expression} is_slash cut pattern) = expression_lists expression
place_lists (custom {expression = expression} is_backslash delimiter cut pattern) = expression_lists expression

abbrev pub address_lists : {text rest : List ℕ} {address : Address} → AddressText text address rest → List ℕ
address_lists none = []
address_lists (one first) = place_lists first
address_lists (two first before is_comma behind second) = place_lists first ++ place_lists second

abbrev pub verb_lists : {text rest : List ℕ} {verb : WrittenVerb} → VerbText text verb rest → List ℕ
verb_lists (substitute {expression = expression} is_s delimiter cut pattern parts groups flags) = expression_lists expression
verb_lists _ = []

abbrev pub command_lists : {text rest : List ℕ} {address : Address} {negated : Bool} {verb : WrittenVerb}
    → CommandText text address negated verb rest → List ℕ
command_lists here = address_lists here.addresses ++ verb_lists here.verbs

-- those of a script, command by command
abbrev pub written_lists : {text : List ℕ} {items : List Item} → Items text items → List (List ℕ)
written_lists (nothing run) = []
written_lists (comment run is_hash rest_of_line no_return more) = written_lists more
written_lists (closing run is_brace ends more) = written_lists more
written_lists (command run here more) = command_lists here ∷ written_lists more

-- both scripts have the same lists, one by one, however they are read
abbrev pub HaveSameLists : List ℕ → List ℕ → Type 0
HaveSameLists text other =
    (items others : List Item) (first : Items text items) (second : Items other others) → written_lists first ≡ written_lists second
