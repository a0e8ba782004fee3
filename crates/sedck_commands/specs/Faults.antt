-- What is at the offset of a fault in its text, this project's own.
use Rattle.std.specs.Prelude.{◌≡◌, ◌≢◌, ℕ, ◌+◌, ◌-◌, ◌<◌, ◌≤◌, Bool, true, false, not, ◌||◌, ◌&&◌, ◌==◌, IsTrue, List, ◌∷◌, ◌++◌, length, Some, slice_get, take, drop, Contains, codes, ◌⊎◌}
use Rattle.std.specs.List.{list_all}
use Rattle.sedck_text.specs.Bytes.{ascii}
use Rattle.sedck_text.specs.Text.{is_in, one_of}
use Rattle.sedck_bre.specs.Tree.{Tree}
use Rattle.sedck_bre.specs.Shape.{Shape}
use Rattle.sedck_bre.specs.Faults as expressions
use Rattle.sedck_expressions.specs.FirstFault.{first_fault}
use Rattle.sedck_expressions.specs.Misjudged.{is_misjudged, IsMisjudgedAt}
use Rattle.sedck_expressions.specs.declared.fault.ReFault.{ReFault}
use Rattle.sedck_commands.specs.Cuts.{backslash, is_blank, is_digit, is_label_byte, is_separator, is_ending, can_be_escaped, is_delimiter, Longest}
use Rattle.sedck_commands.specs.BracketLists.{BracketList, BracketsClose}
use Rattle.sedck_commands.specs.Program.{Place, Address, NoAddress, Label}
use Rattle.sedck_commands.specs.Parts.{Number, DelimitedExpression, ExpressionText, DelimitedList, PlaceText, AddressText}
use Rattle.sedck_commands.specs.ReadAlike.{is_misread}
use Rattle.sedck_commands.specs.Items.{WrittenVerb, Known, VerbText, Item, Written, Items}
use Rattle.sedck_commands.specs.declared.fault.ScriptFault.{ScriptFault}
use Rattle.sedck_commands.specs.declared.fault.ScriptFault.TheVariants as fault

-- a byte with which a command may begin after its addresses
abbrev pub verb_bytes : List ℕ
verb_bytes = codes "{abcdDgGhHilnNpPrstwxy=q:}#"

-- this byte is at the offset
abbrev pub StandsAt : List ℕ → ℕ → ℕ → Type 0
StandsAt text offset b = slice_get text offset ≡ Some b

-- a byte that passes the test is at the offset
abbrev pub StandsWhere : (ℕ → Bool) → List ℕ → ℕ → Type 0
StandsWhere test text offset = (b : ℕ) × StandsAt text offset b × IsTrue (test b)

-- at the offset is the end of the text, or a byte that doesn't pass the test
abbrev pub EndsOrFails : (ℕ → Bool) → List ℕ → ℕ → Type 0
EndsOrFails test text offset = (offset ≤ length text) × ((b : ℕ) → StandsAt text offset b → test b ≡ false)

-- the text begins with what begins neither a comment nor the end of a block, and with no separator
abbrev pub BeginsCommand : List ℕ → Type 0
BeginsCommand text = (b : ℕ) × (behind : List ℕ) × (text ≡ b ∷ behind) × (is_separator b ≡ false) × (b ≢ ascii "#") × (b ≢ ascii "}")

-- a command begins, and the offset is where its verb is due: after its addresses, blanks and `!`, as far as it has any
unfoldable pub IsVerbDue : List ℕ → ℕ → Type 0
IsVerbDue text offset =
    (start : ℕ) × (address : Address) × (behind marks : List ℕ) × BeginsCommand (drop start text) × AddressText (drop start text) address behind
    × Longest (λ b. is_blank b || (b == ascii "!")) behind marks (drop offset text)

-- a verb is due at the offset, and there is the end of the text, or a byte with which no command may begin
abbrev pub IsNoVerb : List ℕ → ℕ → Type 0
IsNoVerb text offset = IsVerbDue text offset × EndsOrFails (λ b. is_in b verb_bytes) text offset

-- a byte that may not follow a command, as a carriage return, which may not be in a comment either
abbrev pub is_extra : ℕ → Bool
is_extra b = not (is_blank b || is_ending b)

-- the first byte 0 is at the offset
abbrev pub IsFirstZero : List ℕ → ℕ → Type 0
IsFirstZero text offset = StandsAt text offset 0 × (Contains (take offset text) 0 → ⊥)

-- a byte with which an address begins
abbrev pub begins_address : ℕ → Bool
begins_address b = is_digit b || one_of "$/\\" b

-- at the offset are digits that are no number
abbrev pub IsNoNumber : List ℕ → ℕ → Type 0
IsNoNumber text offset = StandsWhere is_digit text offset × ((n : ℕ) (rest : List ℕ) → Number (drop offset text) n rest → ⊥)

-- before the offset are a byte that passes the test, and then blanks or nothing
abbrev pub FollowsByte : (ℕ → Bool) → List ℕ → ℕ → Type 0
FollowsByte test text offset =
    (front blanks : List ℕ) × (b : ℕ) × (take offset text ≡ front ++ b ∷ blanks) × IsTrue (test b) × IsTrue (list_all is_blank blanks)

-- a comma asks for an address at the offset, and none begins there
abbrev pub IsNoSecondAddress : List ℕ → ℕ → Type 0
IsNoSecondAddress text offset = FollowsByte (one_of ",") text offset × EndsOrFails begins_address text offset

-- the text spells no expression, and this is its first fault
pub record IsNoExpression (text : List ℕ) (cause : ReFault) : Type 0 where
  pub of_text : expressions.IsOfText cause
  pub first : first_fault text ≡ Some cause
  pub placed : expressions.IsPlaced text cause
  pub spelled : (tree : Tree) → Shape text tree → ⊥

-- The text spells an expression that matchers of real seds get wrong, and the cause is at a reference or an anchor of it.
pub record IsMisjudged (text : List ℕ) (cause : ReFault) : Type 0 where
  pub tree : Tree
  pub spelled : Shape text tree
  pub misjudged : is_misjudged tree ≡ true
  pub placed : IsMisjudgedAt text tree cause

-- An expression begins at the offset, right after its opening delimiter. With its escaped delimiters replaced it is
-- refused for this cause, whose offset is one in that expression.
pub record IsRefusedExpression (text : List ℕ) (offset : ℕ) (cause : ReFault) : Type 0 where
  pub delimiter : ℕ
  pub allowed : IsTrue (is_delimiter delimiter)
  pub behind : 0 < offset
  pub opened : StandsAt text (offset - 1) delimiter
  pub expression : List ℕ
  pub rest : List ℕ
  pub written : ExpressionText delimiter (drop offset text) expression rest
  pub refused : IsNoExpression expression cause ⊎ IsMisjudged expression cause

-- neither an address nor a verb, whole with what it takes, can be read from the offset on
unfoldable pub IsUnread : List ℕ → ℕ → Type 0
IsUnread text offset =
    ((address : Place) (rest : List ℕ) → PlaceText (drop offset text) address rest → ⊥)
    × ((verb : WrittenVerb) (rest : List ℕ) → VerbText (drop offset text) verb rest → ⊥)

-- what begins a part that has to be closed: `s`, `y`, and the `/` or the backslash of an address
abbrev pub begins_part : ℕ → Bool
begins_part b = one_of "sy/\\" b

-- before the offset are a `:`, `b` or `t`, then blanks or nothing, and then bytes of a label or nothing
abbrev pub FollowsLabel : List ℕ → ℕ → Type 0
FollowsLabel text offset =
    (front blanks name : List ℕ) × (verb : ℕ) × (take offset text ≡ front ++ verb ∷ (blanks ++ name)) × IsTrue (one_of ":bt" verb)
    × IsTrue (list_all is_blank blanks) × IsTrue (list_all is_label_byte name)

-- a label begins at the offset, after a verb that passes the test, and these are all its bytes
abbrev pub IsLabelBehind : (ℕ → Bool) → List ℕ → ℕ → List ℕ → Type 0
IsLabelBehind test text offset name = FollowsByte test text offset × (rest : List ℕ) × Longest is_label_byte (drop offset text) name rest × (0 < length name)

-- the label of a definition begins at the offset
abbrev pub IsDefinedLabel : List ℕ → ℕ → Type 0
IsDefinedLabel text offset = (name : List ℕ) × IsLabelBehind (one_of ":") text offset name

-- the label of a branch or a test begins at the offset, and no command of the text defines it
abbrev pub IsUndefinedLabel : List ℕ → ℕ → Type 0
IsUndefinedLabel text offset = (name : List ℕ) × IsLabelBehind (one_of "bt") text offset name
    × ((items : List Item) → Items text items → Contains items (Written NoAddress false (Known (Label name))) → ⊥)

-- an empty expression ends at the offset: its delimiter is there and right before
abbrev pub IsEmptyExpression : List ℕ → ℕ → Type 0
IsEmptyExpression text offset =
    (delimiter : ℕ) × IsTrue (is_delimiter delimiter) × (0 < offset) × StandsAt text (offset - 1) delimiter × StandsAt text offset delimiter

-- a backslash is at the offset, and after it a delimiter that it can't escape
abbrev pub IsForbiddenEscape : List ℕ → ℕ → Type 0
IsForbiddenEscape text offset = StandsAt text offset backslash × StandsWhere (λ b. is_delimiter b && not (can_be_escaped b)) text (offset + 1)

-- At the offset is the first escaped delimiter of an expression in which some sed reads it otherwise: up to it the text has the very
-- bytes of the expression.
pub record IsMisreadEscape (text : List ℕ) (offset : ℕ) : Type 0 where
  pub start : ℕ
  pub behind : 0 < start
  pub delimiter : ℕ
  pub opened : StandsAt text (start - 1) delimiter
  pub expression : List ℕ
  pub rest : List ℕ
  pub cut : DelimitedExpression delimiter (drop start text) expression rest
  pub misread : IsTrue (is_misread delimiter expression)
  pub front : List ℕ
  pub after : List ℕ
  pub more : List ℕ
  pub written : drop start text ≡ front ++ backslash ∷ delimiter ∷ after
  pub replaced : expression ≡ front ++ delimiter ∷ more
  pub here : drop offset text ≡ backslash ∷ delimiter ∷ after

-- At the offset is a `[` of the first list of a `y`, and the bracket list that it opens isn't closed before the delimiter that ends
-- the list of the `y`. The bracket lists before it are closed.
pub record IsOpenBracket (text : List ℕ) (offset : ℕ) : Type 0 where
  pub start : ℕ
  pub delimiter : ℕ
  pub behind : 1 < start
  pub verb : StandsAt text (start - 2) (ascii "y")
  pub opened : StandsAt text (start - 1) delimiter
  pub bytes : List ℕ
  pub rest : List ℕ
  pub list : DelimitedList delimiter (drop start text) bytes rest
  pub written : List ℕ
  pub cut : drop start text ≡ written ++ delimiter ∷ rest
  pub more : List ℕ
  pub closed : BracketsClose written (ascii "[" ∷ more)
  pub unclosed : (end : List ℕ) → BracketList more end → ⊥
  pub here : drop offset text ≡ ascii "[" ∷ (more ++ delimiter ∷ rest)

-- the fault is one of the text, and not that memory ran out
abbrev pub IsOfText : ScriptFault → Type 0
IsOfText f = f ≢ fault.OutOfMemory

-- what is known of a fault's offset in the text
abbrev pub IsPlaced : List ℕ → ScriptFault → Type 0
IsPlaced text (fault.TooLong offset) = (offset ≡ 1048576) × (1048576 < length text)
IsPlaced text (fault.NulByte offset) = IsFirstZero text offset × (length text ≤ 1048576)
IsPlaced text (fault.UnknownCommand offset) = IsNoVerb text offset
IsPlaced text (fault.BadAddress offset) = IsNoNumber text offset ⊎ IsNoSecondAddress text offset
IsPlaced text (fault.TooManyAddresses offset) = StandsWhere (one_of "q:}#") text offset
IsPlaced text (fault.BadExpression offset cause) = IsRefusedExpression text offset cause
IsPlaced text (fault.Unterminated offset) = StandsWhere begins_part text offset × IsUnread text offset
IsPlaced text (fault.BadReplacement offset) = StandsAt text offset backslash
IsPlaced text (fault.BadFlag offset) = StandsWhere is_extra text offset
IsPlaced text (fault.BadTransliteration offset) = StandsWhere (one_of "y\\") text offset ⊎ IsOpenBracket text offset
IsPlaced text (fault.MissingText offset) = StandsWhere (one_of "aci") text offset × IsUnread text offset
IsPlaced text (fault.MissingName offset) = StandsWhere (one_of "rw") text offset × IsUnread text offset
IsPlaced text (fault.BadLabel offset) = FollowsLabel text offset × EndsOrFails is_label_byte text offset
IsPlaced text (fault.DuplicateLabel offset) = IsDefinedLabel text offset
IsPlaced text (fault.UnknownLabel offset) = IsUndefinedLabel text offset
IsPlaced text (fault.UnopenedBlock offset) = StandsAt text offset (ascii "}")
IsPlaced text (fault.UnclosedBlock offset) = StandsAt text offset (ascii "{")
IsPlaced text (fault.TooDeep offset) = StandsAt text offset (ascii "{")
IsPlaced text (fault.TooManyCommands offset) = StandsWhere (λ b. is_in b verb_bytes) text offset
IsPlaced text (fault.ExtraText offset) = StandsWhere is_extra text offset
IsPlaced text (fault.NoPreviousExpression offset) = IsEmptyExpression text offset
IsPlaced text (fault.EscapedDelimiter offset) = IsForbiddenEscape text offset ⊎ IsMisreadEscape text offset
IsPlaced text fault.OutOfMemory = Unit {0}
