-- What is refused since no sed takes it, since some sed reads it otherwise than the standard has it, or since a matcher gets it wrong. Mostly this
-- project's own (docs/GRAMMAR.md): no promise rests on it, since a yes speaks of the text as the grammar reads it, with nothing of this asked.
use Rattle.std.specs.Prelude.{◌≡◌, ◌≢◌, ℕ, ◌≤◌, nat_lt, length, Contains, Bool, true, false, not, ◌&&◌, ◌||◌, ◌==◌, if◌then◌else◌, List, [], ◌∷◌, ◌++◌, IsTrue, ◌⊎◌}
use Rattle.sedck_text.specs.Text.{is_in, one_of, begins}
use Rattle.sedck_text.specs.Bytes.{tab, carriage_return, ascii}
use Rattle.sedck_bre.specs.Brackets.{is_from}
use Rattle.sedck_expressions.specs.Misjudged.{is_misjudged}
use Rattle.sedck_commands.specs.Cuts.{backslash, is_newline, is_letter, is_digit, is_continued, IsEmptyOr, Longest}
use Rattle.sedck_commands.specs.BracketLists.{BracketsClose}
use Rattle.sedck_bre.specs.Tree.{group_count}
use Rattle.sedck_bre.specs.WellFormed.{IsWellFormed}
use Rattle.sedck_commands.specs.Program.{Pattern, Previous, Expression, Part, Group, Address, NoAddress, Two, Label, Quit, WrittenVerb, Known, Command, patterns, expressions}
use Rattle.sedck_commands.specs.Narrowings.{Script, Cut, Matched, Listed, Replaced, Named, AfterFlags, AfterLabel, AfterJump, Taken, Commented, Braced, Resolved, Narrowings}

-- ---- Expressions

-- the text begins with a letter or a digit, and neither a sign of repetition nor a backslash is after it
abbrev pub begins_firmly : List ℕ → Bool
begins_firmly [] = false
begins_firmly (b ∷ text) = (is_letter b || is_digit b) && not (begins "*\\" text)

-- a quote is in the text, and what is right after it may be left out
abbrev pub has_loose_quote : List ℕ → Bool
has_loose_quote [] = false
has_loose_quote (b ∷ text) = ((b == ascii "'") && not (begins_firmly text)) || has_loose_quote text

-- Some sed reads an escaped delimiter otherwise. Beside a `[`, GNU sed takes `\x5b` for the byte 0x5b before it takes the backslash of the delimiter `x`
-- away, so that a list may end elsewhere: `sx[\x5b.].]q]xqx`. In a list, GNU sed and BusyBox keep the backslash of `\:` and `\=`: `[\:` and `[\=` begin no
-- class and the list ends earlier; with a backslash in it, what is left may be more than bytes. For BusyBox `\'` is the end of the text, and no match goes
-- on after it: `s'a\'*b'x'`.
abbrev pub is_misread : ℕ → List ℕ → Bool
is_misread delimiter expression =
    if delimiter == ascii "x" then is_in (ascii "[") expression
    else if one_of ":=" delimiter then is_in (ascii "[") expression && is_in backslash expression
    else if delimiter == ascii "'" then has_loose_quote expression
    else false

-- where some sed would read an escaped delimiter otherwise there is none, and the text has the very bytes of the expression
abbrev pub IsAsWritten : ℕ → List ℕ → List ℕ → List ℕ → Type 0
IsAsWritten delimiter text expression rest = IsTrue (is_misread delimiter expression) → text ≡ expression ++ delimiter ∷ rest

-- ---- Lists of `y`, and names

-- As written, the list leaves no bracket list open: BusyBox looks for its end outside of those, and reads our second list as commands: `y/[/]/ #/w F`.
pub record ClosesBrackets (delimiter : ℕ) (text rest : List ℕ) : Type 0 where
  pub written : List ℕ
  pub cut : text ≡ written ++ delimiter ∷ rest
  pub closed : BracketsClose written []

-- a byte begins the text that is the second one of a control character, from U+0080 to U+009F in UTF-8
abbrev pub ends_control : List ℕ → Bool
ends_control [] = false
ends_control (b ∷ text) = is_from 128 159 b

-- a control character but a tab begins the text
abbrev pub begins_control : List ℕ → Bool
begins_control [] = false
begins_control (b ∷ text) = (nat_lt b 32 && not (b == tab)) || ((b == 127) || ((b == 194) && ends_control text))

abbrev pub has_control : List ℕ → Bool
has_control [] = false
has_control (b ∷ text) = begins_control (b ∷ text) || has_control text

-- A name has no control character but a tab: a terminal obeys some of them, so that it would show another list of files, and BusyBox skips some before a
-- name. Where a line follows, it doesn't end in an odd number of backslashes, since BusyBox joins these lines: in `r a\` and a line `w F` it sees one
-- command, and we two.
pub record IsNameAlike (name rest : List ℕ) : Type 0 where
  pub plain : has_control name ≡ false
  pub over : (rest ≡ []) ⊎ (is_continued name ≡ false)

-- ---- Comments and blocks

-- A comment that begins the text doesn't end in an odd number of backslashes where a line follows: BusyBox joins these lines, and skips both, as in
-- `s/a/b/ # x\` and a line `}`.
abbrev pub HasSingleComment : List ℕ → Type 0
HasSingleComment text =
    IsTrue (begins "#" text) → (line rest : List ℕ) → Longest (λ b. not (is_newline b)) text line rest → (rest ≡ []) ⊎ (is_continued line ≡ false)

-- One or more `}` begin the text, and a `#` is right after them: BusyBox takes all up to a blank, a newline or a `;` into a label: `b a}#;w F`.
abbrev pub begins_braced_comment : List ℕ → Bool
begins_braced_comment [] = false
begins_braced_comment (b ∷ text) = (b == ascii "}") && (begins "#" text || begins_braced_comment text)

-- Where a `}` is right after a label, at most one block is open: BusyBox takes it into the label, and would end an inner block only with the outer one,
-- as in `1{2{ba}};:a`.
abbrev pub MayBeBraced : Bool → ℕ → Type 0
MayBeBraced braced depth = braced ≡ true → depth ≤ 1

-- A carriage return in a comment is the last byte of its line: BusyBox ends the comment there, and reads commands after it, as `w F` after `# x` and
-- this byte.
abbrev pub HasNoInnerReturn : List ℕ → Type 0
HasNoInnerReturn comment = (front behind : List ℕ) → comment ≡ front ++ carriage_return ∷ behind → behind ≡ []

-- ---- What seds refuse, and limits

-- a text that may be a script's: it isn't too long and holds no byte 0
pub record IsScriptText (text : List ℕ) : Type 0 where
  pub fits : length text ≤ 1048576
  pub no_zero : Contains text 0 → ⊥

-- the greatest group that a replacement may name
abbrev pub greatest_group : Pattern → ℕ
greatest_group Previous = 9
greatest_group (Expression tree) = group_count tree

-- the replacement names only groups that the expression has
abbrev pub HasGroups : Pattern → List Part → Type 0
HasGroups pattern parts = (k : ℕ) → Contains parts (Group k) → k ≤ greatest_group pattern

-- the text doesn't begin with a comment
abbrev pub IsNoComment : List ℕ → Type 0
IsNoComment text = IsEmptyOr (λ b. not (b == ascii "#")) text

-- the text begins neither with a comment nor with the end of a block
abbrev pub IsNoBrace : List ℕ → Type 0
IsNoBrace text = IsEmptyOr (λ b. not ((b == ascii "#") || (b == ascii "}"))) text

-- The verb takes these addresses and this `!`: a label takes none, and `q` no two addresses.
abbrev pub Takes : WrittenVerb → Address → Bool → Type 0
Takes (Known (Label name)) given negated = (given ≡ NoAddress) × (negated ≡ false)
Takes (Known Quit) given negated = (p q : _) → given ≢ Two p q
Takes _ given negated = Unit {0}

-- an empty expression has another one to stand for, and there aren't too many commands
pub record AreUsable (commands : List Command) : Type 0 where
  pub expression : Contains (patterns commands) Previous → expressions commands ≢ []
  pub count : length commands ≤ 4095

-- ---- All of it

abbrev pub read_alike : Narrowings
read_alike (Script text) = IsScriptText text
read_alike (Cut delimiter text expression rest) = IsAsWritten delimiter text expression rest
-- an expression is well formed, and none that matchers of real seds get wrong: `\(a*\)*\1` may never end in GNU sed
read_alike (Matched tree) = IsWellFormed tree × (is_misjudged tree ≡ false)
read_alike (Listed delimiter text rest) = ClosesBrackets delimiter text rest
read_alike (Replaced pattern parts) = HasGroups pattern parts
read_alike (Named name rest) = IsNameAlike name rest
read_alike (AfterFlags rest) = HasSingleComment rest
read_alike (AfterLabel after) = IsNoBrace after
-- no comment is after a `b` or a `t` without a label: some seds take the `#` for one, up to the next `;`
read_alike (AfterJump after rest) = IsNoComment after × (begins_braced_comment rest ≡ false)
read_alike (Taken verb address negated) = Takes verb address negated
read_alike (Commented comment) = HasNoInnerReturn comment
read_alike (Braced braced depth) = MayBeBraced braced depth
read_alike (Resolved commands) = AreUsable commands
