-- A script's text as items: commands, with labels where targets will be, and closings of blocks (POSIX.1-2024 XCU sed, "Editing Commands in sed").
-- "Ours" marks what the standard leaves open or undefined.
use Rattle.std.specs.Prelude.{◌≡◌, ℕ, Bool, not, ◌||◌, ◌==◌, if◌then◌else◌, List, [], ◌∷◌, length, Some, None, IsTrue}
use Rattle.std.specs.List.{list_any}
use Rattle.sedck_text.specs.Text.{begins}
use Rattle.sedck_text.specs.Bytes.{ascii}
use Rattle.sedck_commands.specs.Cuts.{is_newline, is_blank, is_separator, is_delimiter, Longest}
use Rattle.sedck_commands.specs.Program.{Pattern, Address, Part, Substitution, Verb, Label, Append, Change, Insert, Read, Write, Substitute, Transliterate, Delete, DeleteFirstLine, Get, GetAppend, Hold, HoldAppend, List', Next, NextAppend, Print, PrintFirstLine, Quit, Exchange, LineNumber}
pub use Rattle.sedck_commands.specs.Program.{WrittenVerb, Known, JumpTo, Opening}
use Rattle.sedck_commands.specs.Narrowings.{Listed, Replaced, AfterLabel, AfterJump, Taken, Commented, Narrowings}
use Rattle.sedck_commands.specs.ReadAlike.{read_alike}
pub use Rattle.sedck_commands.specs.ReadAlike.{IsNoComment, IsNoBrace, Takes}
use Rattle.sedck_commands.specs.Parts.{Ends, ExpressionTextIn, IsPatternIn, DelimitedList, Replacement, NameIn, FlagsIn, GivenText, LabelText, AddressTextIn}

-- an item of a script: a command as it is written, or the `}` of a block
pub data Item : Type 0 where
  Written : Address → Bool → WrittenVerb → Item
  Closing : Item

-- the verbs that take nothing
pub data Simple : ℕ → Verb → Type 0 where
  line_number : Simple (ascii "=") LineNumber
  delete : Simple (ascii "d") Delete
  delete_first_line : Simple (ascii "D") DeleteFirstLine
  get : Simple (ascii "g") Get
  get_append : Simple (ascii "G") GetAppend
  hold : Simple (ascii "h") Hold
  hold_append : Simple (ascii "H") HoldAppend
  list : Simple (ascii "l") List'
  next : Simple (ascii "n") Next
  next_append : Simple (ascii "N") NextAppend
  print : Simple (ascii "p") Print
  print_first_line : Simple (ascii "P") PrintFirstLine
  quit : Simple (ascii "q") Quit
  exchange : Simple (ascii "x") Exchange

-- a verb with what it takes and its end
pub data VerbTextIn (n : Narrowings) : List ℕ → WrittenVerb → List ℕ → Type 0 where
  simple : {b : ℕ} {text rest : List ℕ} {verb : Verb} → Simple b verb → Ends text rest → VerbTextIn n (b ∷ text) (Known verb) rest
  label : {b : ℕ} {text name behind rest : List ℕ} → b ≡ ascii ":" → LabelText text name behind → n (AfterLabel behind) → Ends behind rest
      → VerbTextIn n (b ∷ text) (Known (Label name)) rest
  jump : {b : ℕ} {text name behind rest : List ℕ} {tests braced : Bool} → b ≡ (if tests then ascii "t" else ascii "b") → LabelText text name behind
      → n (AfterJump behind rest) → Ends behind rest → braced ≡ begins "}" behind → VerbTextIn n (b ∷ text) (JumpTo tests (Some name) braced) rest
  jump_to_end : {b : ℕ} {text rest : List ℕ} {tests braced : Bool} → b ≡ (if tests then ascii "t" else ascii "b") → n (AfterJump rest rest)
      → Ends text rest → braced ≡ begins "}" rest → VerbTextIn n (b ∷ text) (JumpTo tests None braced) rest
  opening : {b : ℕ} {rest : List ℕ} → b ≡ ascii "{" → VerbTextIn n (b ∷ rest) Opening rest
  append : {b : ℕ} {text blanks begins bytes rest : List ℕ} → b ≡ ascii "a" → Longest is_blank text blanks begins → GivenText begins bytes rest
      → VerbTextIn n (b ∷ text) (Known (Append bytes)) rest
  change : {b : ℕ} {text blanks begins bytes rest : List ℕ} → b ≡ ascii "c" → Longest is_blank text blanks begins → GivenText begins bytes rest
      → VerbTextIn n (b ∷ text) (Known (Change bytes)) rest
  insert : {b : ℕ} {text blanks begins bytes rest : List ℕ} → b ≡ ascii "i" → Longest is_blank text blanks begins → GivenText begins bytes rest
      → VerbTextIn n (b ∷ text) (Known (Insert bytes)) rest
  read : {b : ℕ} {text name rest : List ℕ} → b ≡ ascii "r" → NameIn n text name rest → VerbTextIn n (b ∷ text) (Known (Read name)) rest
  write : {b : ℕ} {text name rest : List ℕ} → b ≡ ascii "w" → NameIn n text name rest → VerbTextIn n (b ∷ text) (Known (Write name)) rest
  substitute : {b delimiter : ℕ} {text expression behind flags rest : List ℕ} {pattern : Pattern} {parts : List Part} {substitution : Substitution}
      → b ≡ ascii "s" → IsTrue (is_delimiter delimiter)
      → ExpressionTextIn n delimiter text expression behind → IsPatternIn n expression pattern
      → Replacement delimiter behind parts flags → n (Replaced pattern parts)
      → FlagsIn n pattern parts flags substitution rest
      → VerbTextIn n (b ∷ delimiter ∷ text) (Known (Substitute substitution)) rest
  transliterate : {b delimiter : ℕ} {text from behind to after rest : List ℕ}
      → b ≡ ascii "y" → IsTrue (is_delimiter delimiter)
      → DelimitedList delimiter text from behind → n (Listed delimiter text behind) → DelimitedList delimiter behind to after
      → length from ≡ length to → Ends after rest
      → VerbTextIn n (b ∷ delimiter ∷ text) (Known (Transliterate from to)) rest

-- A command: its addresses, then blanks (ours) and any number of `!`, then its verb. It is negated where there is a `!`.
pub record CommandTextIn (n : Narrowings) (text : List ℕ) (address : Address) (negated : Bool) (verb : WrittenVerb) (rest : List ℕ) : Type 0 where
  pub behind : List ℕ
  pub addresses : AddressTextIn n text address behind
  pub marks : List ℕ
  pub begins : List ℕ
  pub run : Longest (λ b. is_blank b || (b == ascii "!")) behind marks begins
  pub mark : negated ≡ list_any (λ b. b == ascii "!") marks
  pub verbs : VerbTextIn n begins verb rest
  pub taken : n (Taken verb address negated)

-- The items of a text. Any number of blanks, newlines and `;` may precede an item, and a comment runs to the end of its line.
pub data ItemsIn (n : Narrowings) : List ℕ → List Item → Type 0 where
  nothing : {text separators : List ℕ} → Longest is_separator text separators [] → ItemsIn n text []
  comment : {b : ℕ} {text separators begins line rest : List ℕ} {items : List Item} → Longest is_separator text separators (b ∷ begins) → b ≡ ascii "#"
      → Longest (λ c. not (is_newline c)) begins line rest → n (Commented line) → ItemsIn n rest items → ItemsIn n text items
  closing : {b : ℕ} {text separators begins rest : List ℕ} {items : List Item} → Longest is_separator text separators (b ∷ begins) → b ≡ ascii "}"
      → Ends begins rest → ItemsIn n rest items → ItemsIn n text (Closing ∷ items)
  command : {text separators begins rest : List ℕ} {address : Address} {negated : Bool} {verb : WrittenVerb} {items : List Item}
      → Longest is_separator text separators begins → CommandTextIn n begins address negated verb rest → ItemsIn n rest items
      → ItemsIn n text (Written address negated verb ∷ items)

-- ---- The same as seds read them alike

abbrev pub VerbText : List ℕ → WrittenVerb → List ℕ → Type 0
VerbText = VerbTextIn read_alike

abbrev pub CommandText : List ℕ → Address → Bool → WrittenVerb → List ℕ → Type 0
CommandText = CommandTextIn read_alike

abbrev pub Items : List ℕ → List Item → Type 0
Items = ItemsIn read_alike
