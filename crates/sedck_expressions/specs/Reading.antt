-- How an expression is read from left to right: a function from a text to its tree, or to its first fault (ours). It reads what the grammar in
-- Shape.antt spells, and nothing else.
use Rattle.std.specs.Prelude.{ℕ, zero, suc, ◌+◌, ◌-◌, ◌==◌, nat_lt, nat_le, Bool, true, false, ◌&&◌, ◌||◌, if◌then◌else◌, List, [], ◌∷◌, ◌++◌, length, drop, codes, Option, Some, None, Result, Ok, Err}
use Rattle.std.specs.Option.{ok_or}
use Rattle.sedck_text.specs.Bytes.{backslash, newline, tab, ascii}
use Rattle.sedck_text.specs.Text.{one_of, begins}
use Rattle.sedck_expressions.specs.Tree.{Tree, Trees, Byte, Any, Set, Start, End, Maybe, Group, Ref, Seq, Repeat, Nil, Then, groups_in, is_in}
use Rattle.sedck_expressions.specs.Shape.{Level, Whole, Inside, Position, First, is_first, is_later, behind}
use Rattle.sedck_expressions.specs.declared.fault.ReFault.{ReFault}
use Rattle.sedck_expressions.specs.declared.fault.ReFault.TheVariants.{TrailingBackslash, BadEscape, UnclosedGroup, UnopenedGroup, BadInterval, NothingToRepeat, DoubleRepeat, BadReference, TooDeep, TooManyGroups}

-- why a reading stops: the fault at an offset, and what is left of the text from its place on
abbrev pub Stop : Type 0
Stop = (ℕ → ReFault) × List ℕ

abbrev pub and_then : {A B E : Type 0} → (A → Result B E) → Result A E → Result B E
and_then f (Ok x) = f x
and_then f (Err e) = Err e

-- one step after another, where each may stop
infixl 10 ◌>>=◌
abbrev pub ◌>>=◌ : {A B E : Type 0} → Result A E → (A → Result B E) → Result B E
r >>= f = and_then f r

-- how a bracket list and an interval are read from the start of a text, and whether the limits aren't kept: then any number
-- of groups is read, and a reference to any group
pub record Readers : Type 0 where
  pub bracket : List ℕ → Result (List ℕ × List ℕ) Stop
  pub interval : List ℕ → Option (ℕ × Option ℕ × List ℕ)
  pub unlimited : Bool

-- the text begins with a backslash and this byte
abbrev pub begins_pair : ℕ → List ℕ → Bool
begins_pair c [] = false
begins_pair c (b ∷ []) = false
begins_pair c (b ∷ d ∷ _) = (b == backslash) && (d == c)

-- the list of items is over
abbrev pub at_end : List ℕ → Bool
at_end [] = true
at_end (b ∷ text) = begins_pair (ascii ")") (b ∷ text)

abbrev pub is_repeatable : Tree → Bool
is_repeatable (Byte _) = true
is_repeatable Any = true
is_repeatable (Set _) = true
is_repeatable (Group _ _) = true
is_repeatable (Ref _) = true
is_repeatable _ = false

-- the `^` and the `$` of a whole expression and of a group
abbrev pub start_of : Level → Tree
start_of Whole = Start
start_of Inside = Maybe (ascii "^")

abbrev pub end_of : Level → Tree
end_of Whole = End
end_of Inside = Maybe (ascii "$")

-- a byte that is not escaped, where the flag says that it is the last of its list; nothing for a sign of repetition
abbrev pub plain : Level → Position → Bool → ℕ → Option Tree
plain level position last b =
    if b == ascii "*" then (if is_later position then None else Some (Byte b))
    else if b == ascii "^" then (if is_first position then Some (start_of level) else Some (Byte b))
    else if b == ascii "$" then (if last then Some (end_of level) else Some (Byte b))
    else Some (Byte b)

-- the inside of a group up to its `\)`, where the group opens the text
abbrev pub closed_by : ℕ → List ℕ → Trees × List ℕ → Result (Tree × List ℕ) Stop
closed_by k text (ts, rest) = if begins_pair (ascii ")") rest then Ok (Group k (Seq ts), drop 2 rest) else Err (UnclosedGroup, text)

-- the limit that a group at this depth is beyond
abbrev pub limit : ℕ → ℕ → ReFault
limit deep = if nat_lt deep 32 then TooManyGroups else TooDeep

-- a group that may still be opened, from what follows its `\(`
abbrev pub group_at : Readers → (List ℕ → Result (Trees × List ℕ) Stop) → ℕ → ℕ → List ℕ → Result (Tree × List ℕ) Stop
group_at readers inner deep opened text =
    if readers.unlimited || (nat_lt deep 32 && nat_lt opened 99) then inner text >>= closed_by (opened + 1) (codes "\\(" ++ text)
    else Err (limit deep, codes "\\(" ++ text)

-- a backslash and a byte that are no item
abbrev pub no_item : Position → ℕ → ℕ → ReFault
no_item position b = if b == ascii "{" then (if is_later position then DoubleRepeat else NothingToRepeat) else BadEscape

-- what follows a backslash
abbrev pub escaped : Readers → (List ℕ → Result (Trees × List ℕ) Stop) → Position → ℕ → ℕ → List ℕ → ℕ → List ℕ → Result (Tree × List ℕ) Stop
escaped readers inner position deep opened closed b text =
    if b == ascii "(" then group_at readers inner deep opened text
    else if nat_le (ascii "1") b && nat_le b (ascii "9") then
    (if readers.unlimited || is_in (b - ascii "0") closed then Ok (Ref (b - ascii "0"), text) else Err (BadReference, backslash ∷ b ∷ text))
    else if b == ascii "n" then Ok (Byte newline, text)
    else if b == ascii "t" then Ok (Byte tab, text)
    else if one_of ".[\\*^$]/-\"&,;:!@#%=~_ " b then Ok (Byte b, text)
    else Err (no_item position b, backslash ∷ b ∷ text)

abbrev pub after_backslash : Readers → (List ℕ → Result (Trees × List ℕ) Stop) → Position → ℕ → ℕ → List ℕ → List ℕ → Result (Tree × List ℕ) Stop
after_backslash readers inner position deep opened closed [] = Err (TrailingBackslash, backslash ∷ [])
after_backslash readers inner position deep opened closed (b ∷ text) = escaped readers inner position deep opened closed b text

abbrev pub set_before : List ℕ × List ℕ → Result (Tree × List ℕ) Stop
set_before (bytes, rest) = Ok (Set bytes, rest)

abbrev pub tree_before : List ℕ → Tree → Result (Tree × List ℕ) Stop
tree_before rest t = Ok (t, rest)

-- an item without a sign of repetition, where the list isn't over
abbrev pub atom : Readers → (List ℕ → Result (Trees × List ℕ) Stop) → Level → Position → ℕ → ℕ → List ℕ → List ℕ → Result (Tree × List ℕ) Stop
atom readers inner level position deep opened closed [] = Err (UnopenedGroup, [])
atom readers inner level position deep opened closed (b ∷ text) =
    if b == backslash then after_backslash readers inner position deep opened closed text
    else if b == ascii "[" then (readers.bracket (b ∷ text) >>= set_before)
    else if b == ascii "." then Ok (Any, text)
    else (ok_or (plain level position (at_end text) b) (DoubleRepeat, b ∷ text) >>= tree_before text)

abbrev pub repeat_before : Tree → ℕ × Option ℕ × List ℕ → Result (Tree × List ℕ) Stop
repeat_before t (least, most, rest) = Ok (Repeat t least most, rest)

-- the item with the sign of repetition after it, if there is one
abbrev pub signed : Readers → Tree → List ℕ → Result (Tree × List ℕ) Stop
signed readers t text =
    if begins "*" text then Ok (Repeat t 0 None, drop 1 text)
    else if begins_pair (ascii "{") text then (ok_or (readers.interval text) (BadInterval, text) >>= repeat_before t)
    else Ok (t, text)

abbrev pub with_sign : Readers → Tree × List ℕ → Result (Tree × List ℕ) Stop
with_sign readers (t, text) = if is_repeatable t then signed readers t text else Ok (t, text)

abbrev pub before_all : Tree → Trees × List ℕ → Result (Trees × List ℕ) Stop
before_all t (ts, rest) = Ok (Then t ts, rest)

-- how a list of items is read: from its level, the position, the open groups, the groups opened so far, those closed, and the text
abbrev pub Lister : Type 0
Lister = Level → Position → ℕ → ℕ → List ℕ → List ℕ → Result (Trees × List ℕ) Stop

-- the items after the first
abbrev pub more : Lister → Level → Position → ℕ → ℕ → List ℕ → Tree × List ℕ → Result (Trees × List ℕ) Stop
more list level position deep opened closed (t, rest) =
    list level (behind position t) deep (opened + length (groups_in t)) (closed ++ groups_in t) rest >>= before_all t

abbrev pub some_items : Readers → Lister → Lister
some_items readers list level position deep opened closed text =
    if at_end text then Ok (Nil, text)
    else (atom readers (list Inside First (deep + 1) (opened + 1) closed) level position deep opened closed text
    >>= with_sign readers >>= more list level position deep opened closed)

-- The items up to the end of their list, and what follows it. The number bounds how deep the calls go, and isn't reached where it is above the length
-- of the text.
unfoldable pub items : Readers → ℕ → Lister
items readers zero level position deep opened closed text = Err (UnopenedGroup, text)
items readers (suc n) level position deep opened closed text = some_items readers (items readers n) level position deep opened closed text

-- a whole expression
abbrev pub whole : Trees × List ℕ → Result Tree Stop
whole (ts, []) = Ok (Seq ts)
whole (ts, b ∷ rest) = Err (UnopenedGroup, b ∷ rest)

unfoldable pub read : Readers → List ℕ → Result Tree Stop
read readers text = items readers (length text + 1) Whole First 0 0 [] text >>= whole
