-- The parts of a command (POSIX.1-2024 XCU sed, "Addresses in sed", "Regular Expressions in sed" and "Editing Commands in sed"). Each relation takes the
-- text from where the part begins, what the part means, and the rest of the text; some take first what is asked besides. "Ours" marks what the standard
-- leaves open or undefined.
use Rattle.std.specs.Prelude.{◌≡◌, ◌≢◌, ℕ, ◌<◌, ◌≤◌, ◌^◌, ◌-◌, true, false, not, List, [], ◌∷◌, length, Some, None, IsTrue}
use Rattle.std.specs.Str.Parse.{digits_value}
use Rattle.sedck_bre.specs.Shape.{SpellsTree}
use Rattle.sedck_text.specs.Bytes.{ascii}
pub use Rattle.sedck_text.specs.Classes.{is_plain}
use Rattle.sedck_commands.specs.Cuts.{newline, backslash, is_newline, is_blank, is_digit, is_letter, is_label_byte, is_ending, can_be_escaped, is_delimiter, IsEmptyOr, Longest}
use Rattle.sedck_commands.specs.Narrowings.{Cut, Matched, Listed, Named, AfterFlags, Narrowings}
use Rattle.sedck_commands.specs.ReadAlike.{read_alike}
pub use Rattle.sedck_commands.specs.ReadAlike.{greatest_group, HasGroups}
use Rattle.sedck_commands.specs.Program.{Pattern, Previous, Expression, Place, Line, Last, Context, Address, NoAddress, One, Two, Part, Text, Newline, Tab, Whole, Group, Substitution}

-- The end of a command: blanks, and then what ends one or the end of the script, where the rest begins.
pub record Ends (text rest : List ℕ) : Type 0 where
  pub blanks : List ℕ
  pub run : Longest is_blank text blanks rest
  pub ending : IsEmptyOr is_ending rest

-- A decimal number, its longest run of digits.
pub record Number (text : List ℕ) (value : ℕ) (rest : List ℕ) : Type 0 where
  pub digits : List ℕ
  pub run : Longest is_digit text digits rest
  pub some : 0 < length digits
  pub is : value ≡ digits_value 10 digits
  pub positive : 0 < value
  pub fits : value < 2 ^ 32

-- An expression after its opening delimiter, without the backslashes of escaped ones: up to the first that isn't escaped, in a bracket list too (ours).
pub data DelimitedExpression (delimiter : ℕ) : List ℕ → List ℕ → List ℕ → Type 0 where
  ends : {b : ℕ} {rest : List ℕ} → b ≡ delimiter → DelimitedExpression delimiter (b ∷ rest) [] rest
  byte : {b : ℕ} {text expression rest : List ℕ} → b ≢ delimiter → b ≢ backslash → b ≢ newline
      → DelimitedExpression delimiter text expression rest → DelimitedExpression delimiter (b ∷ text) (b ∷ expression) rest
  escaped : {a b : ℕ} {text expression rest : List ℕ} → a ≡ backslash → b ≡ delimiter → IsTrue (can_be_escaped delimiter)
      → DelimitedExpression delimiter text expression rest → DelimitedExpression delimiter (a ∷ b ∷ text) (b ∷ expression) rest
  pair : {a b : ℕ} {text expression rest : List ℕ} → a ≡ backslash → b ≢ delimiter → b ≢ newline
      → DelimitedExpression delimiter text expression rest → DelimitedExpression delimiter (a ∷ b ∷ text) (a ∷ b ∷ expression) rest

-- an expression as it may be cut out
pub record ExpressionTextIn (n : Narrowings) (delimiter : ℕ) (text expression rest : List ℕ) : Type 0 where
  pub cut : DelimitedExpression delimiter text expression rest
  pub alike : n (Cut delimiter text expression rest)

-- the pattern of an expression: the empty one stands for another of the script
pub data IsPatternIn (n : Narrowings) : List ℕ → Pattern → Type 0 where
  previous : IsPatternIn n [] Previous
  expression : {b : ℕ} {bytes : List ℕ} {tree : _} → SpellsTree (b ∷ bytes) tree × n (Matched tree) → IsPatternIn n (b ∷ bytes) (Expression tree)

-- One list of a `y` command after its opening delimiter.
pub data DelimitedList (delimiter : ℕ) : List ℕ → List ℕ → List ℕ → Type 0 where
  ends : {b : ℕ} {rest : List ℕ} → b ≡ delimiter → DelimitedList delimiter (b ∷ rest) [] rest
  byte : {b : ℕ} {text bytes rest : List ℕ} → b ≢ delimiter → b ≢ backslash → b ≢ newline
      → DelimitedList delimiter text bytes rest → DelimitedList delimiter (b ∷ text) (b ∷ bytes) rest
  escaped : {a b : ℕ} {text bytes rest : List ℕ} → a ≡ backslash → b ≡ delimiter → IsTrue (can_be_escaped delimiter)
      → DelimitedList delimiter text bytes rest → DelimitedList delimiter (a ∷ b ∷ text) (b ∷ bytes) rest
  backslashes : {a b : ℕ} {text bytes rest : List ℕ} → a ≡ backslash → b ≡ backslash
      → DelimitedList delimiter text bytes rest → DelimitedList delimiter (a ∷ b ∷ text) (backslash ∷ bytes) rest
  line : {a b : ℕ} {text bytes rest : List ℕ} → a ≡ backslash → b ≢ delimiter → b ≡ ascii "n"
      → DelimitedList delimiter text bytes rest → DelimitedList delimiter (a ∷ b ∷ text) (newline ∷ bytes) rest

-- what a backslash and this byte mean in a replacement; the tab is ours
pub data EscapedPart : ℕ → Part → Type 0 where
  line : {b : ℕ} → b ≡ ascii "n" → EscapedPart b Newline
  tabulator : {b : ℕ} → b ≡ ascii "t" → EscapedPart b Tab
  group : {b : ℕ} → ascii "1" ≤ b → b ≤ ascii "9" → EscapedPart b (Group (b - ascii "0"))
  other : {b : ℕ} → is_letter b ≡ false → is_digit b ≡ false → EscapedPart b (Text (b ∷ []))

-- a group that a reference can name
abbrev pub IsPart : Part → Type 0
IsPart (Group k) = (1 ≤ k) × (k ≤ 9)
IsPart _ = Unit {0}

-- A replacement after the delimiter in front of it. A longest run of bytes that stand for themselves is one text, and an escaped byte is a text of its own.
pub data Replacement (delimiter : ℕ) : List ℕ → List Part → List ℕ → Type 0 where
  ends : {b : ℕ} {rest : List ℕ} → b ≡ delimiter → Replacement delimiter (b ∷ rest) [] rest
  whole : {b : ℕ} {text rest : List ℕ} {parts : List Part} → b ≢ delimiter → b ≡ ascii "&"
      → Replacement delimiter text parts rest → Replacement delimiter (b ∷ text) (Whole ∷ parts) rest
  escaped : {a b : ℕ} {text rest : List ℕ} {parts : List Part} → a ≡ backslash → b ≡ delimiter → IsTrue (can_be_escaped delimiter)
      → Replacement delimiter text parts rest → Replacement delimiter (a ∷ b ∷ text) (Text (b ∷ []) ∷ parts) rest
  part : {a b : ℕ} {text rest : List ℕ} {first : Part} {parts : List Part} → a ≡ backslash → b ≢ delimiter → EscapedPart b first
      → Replacement delimiter text parts rest → Replacement delimiter (a ∷ b ∷ text) (first ∷ parts) rest
  run : {b : ℕ} {text bytes behind rest : List ℕ} {parts : List Part} → Longest (is_plain delimiter) text (b ∷ bytes) behind
      → Replacement delimiter behind parts rest → Replacement delimiter text (Text (b ∷ bytes) ∷ parts) rest

-- A file name: blanks, and then all of the line, at least a byte.
pub record NameIn (n : Narrowings) (text name rest : List ℕ) : Type 0 where
  pub blanks : List ℕ
  pub begins : List ℕ
  pub skipped : Longest is_blank text blanks begins
  pub run : Longest (λ b. not (is_newline b)) begins name rest
  pub some : 0 < length name
  pub alike : n (Named name rest)

-- The flags of a substitution, in any order, each at most once; a file's name is the last.
pub data FlagsIn (n : Narrowings) (pattern : Pattern) (parts : List Part) : List ℕ → Substitution → List ℕ → Type 0 where
  none : {text rest : List ℕ} → Ends text rest → n (AfterFlags rest)
      → FlagsIn n pattern parts text (record { pattern = pattern; parts = parts; global = false; print = false; nth = None; file = None }) rest
  file : {b : ℕ} {text name rest : List ℕ} → b ≡ ascii "w" → NameIn n text name rest
      → FlagsIn n pattern parts (b ∷ text) (record { pattern = pattern; parts = parts; global = false; print = false; nth = None; file = Some name }) rest
  global : {b : ℕ} {text rest : List ℕ} {others : Substitution} → b ≡ ascii "g" → FlagsIn n pattern parts text others rest → others.global ≡ false
      → FlagsIn n pattern parts (b ∷ text) (record others { global = true }) rest
  print : {b : ℕ} {text rest : List ℕ} {others : Substitution} → b ≡ ascii "p" → FlagsIn n pattern parts text others rest → others.print ≡ false
      → FlagsIn n pattern parts (b ∷ text) (record others { print = true }) rest
  number : {nth : ℕ} {text behind rest : List ℕ} {others : Substitution} → Number text nth behind → FlagsIn n pattern parts behind others rest
      → others.nth ≡ None → FlagsIn n pattern parts text (record others { nth = Some nth }) rest

-- The lines of a text, up to the first newline that no backslash escapes, or the end of the script. A backslash and the byte after it are both kept.
pub data Lines : List ℕ → List ℕ → List ℕ → Type 0 where
  all : Lines [] [] []
  ends : {b : ℕ} {rest : List ℕ} → b ≡ newline → Lines (b ∷ rest) [] (b ∷ rest)
  byte : {b : ℕ} {text bytes rest : List ℕ} → b ≢ newline → b ≢ backslash → Lines text bytes rest → Lines (b ∷ text) (b ∷ bytes) rest
  pair : {a b : ℕ} {text bytes rest : List ℕ} → a ≡ backslash → Lines text bytes rest → Lines (a ∷ b ∷ text) (a ∷ b ∷ bytes) rest
  last : {b : ℕ} → b ≡ backslash → Lines (b ∷ []) (b ∷ []) []

-- The text of `a`, `c` and `i` after blanks: after a backslash and a newline, or (ours) after a backslash on the line, which keeps blanks, or (ours) at once.
pub data GivenText : List ℕ → List ℕ → List ℕ → Type 0 where
  below : {a b : ℕ} {text bytes rest : List ℕ} → a ≡ backslash → b ≡ newline → Lines text bytes rest → GivenText (a ∷ b ∷ text) bytes rest
  behind : {a b : ℕ} {text blanks more bytes rest : List ℕ} → a ≡ backslash → Longest is_blank text blanks (b ∷ more) → b ≢ newline → b ≢ backslash
      → Lines text bytes rest → GivenText (a ∷ text) bytes rest
  at_once : {b : ℕ} {text bytes rest : List ℕ} → b ≢ newline → b ≢ backslash → Lines (b ∷ text) bytes rest → GivenText (b ∷ text) bytes rest

-- A label after its verb: blanks, and then the longest run of a label's bytes, at least one.
pub record LabelText (text name rest : List ℕ) : Type 0 where
  pub blanks : List ℕ
  pub begins : List ℕ
  pub skipped : Longest is_blank text blanks begins
  pub run : Longest is_label_byte begins name rest
  pub some : 0 < length name

-- One address.
pub data PlaceTextIn (n : Narrowings) : List ℕ → Place → List ℕ → Type 0 where
  line : {text rest : List ℕ} {number : ℕ} → Number text number rest → PlaceTextIn n text (Line number) rest
  last : {b : ℕ} {rest : List ℕ} → b ≡ ascii "$" → PlaceTextIn n (b ∷ rest) Last rest
  context : {b : ℕ} {text expression rest : List ℕ} {pattern : Pattern} → b ≡ ascii "/"
      → ExpressionTextIn n (ascii "/") text expression rest → IsPatternIn n expression pattern → PlaceTextIn n (b ∷ text) (Context pattern) rest
  custom : {b delimiter : ℕ} {text expression rest : List ℕ} {pattern : Pattern} → b ≡ backslash → IsTrue (is_delimiter delimiter)
      → ExpressionTextIn n delimiter text expression rest → IsPatternIn n expression pattern → PlaceTextIn n (b ∷ delimiter ∷ text) (Context pattern) rest

-- The addresses of a command; blanks may be around the comma (ours).
pub data AddressTextIn (n : Narrowings) : List ℕ → Address → List ℕ → Type 0 where
  none : {text : List ℕ} → AddressTextIn n text NoAddress text
  one : {text rest : List ℕ} {p : Place} → PlaceTextIn n text p rest → AddressTextIn n text (One p) rest
  two : {text behind blanks more front second rest : List ℕ} {b : ℕ} {p q : Place} → PlaceTextIn n text p behind
      → Longest is_blank behind blanks (b ∷ more) → b ≡ ascii "," → Longest is_blank more front second
      → PlaceTextIn n second q rest → AddressTextIn n text (Two p q) rest

-- ---- The same as seds read them alike

abbrev pub ExpressionText : ℕ → List ℕ → List ℕ → List ℕ → Type 0
ExpressionText = ExpressionTextIn read_alike

-- the first list of `y`
pub record FirstList (delimiter : ℕ) (text bytes rest : List ℕ) : Type 0 where
  pub list : DelimitedList delimiter text bytes rest
  pub alike : read_alike (Listed delimiter text rest)

abbrev pub PlaceText : List ℕ → Place → List ℕ → Type 0
PlaceText = PlaceTextIn read_alike

abbrev pub AddressText : List ℕ → Address → List ℕ → Type 0
AddressText = AddressTextIn read_alike
