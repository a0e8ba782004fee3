-- Which fault a text has that can't be read (docs/FAULTS.md). It is read from left to right, and the fault of a part is met only where all before it can
-- be read. Each relation takes the size of the whole text, then the text from where the part begins, and the fault. An opening is the offset of the verb,
-- the flag or the address that opens the part. This project's own.
use Rattle.std.specs.Prelude.{◌≡◌, ◌≢◌, ℕ, ◌+◌, ◌<◌, ◌≤◌, Bool, true, false, not, ◌||◌, ◌&&◌, ◌==◌, if◌then◌else◌, IsTrue, List, [], ◌∷◌, ◌++◌, length, Option, Contains, ◌⊎◌}
use Rattle.std.specs.List.{list_any}
use Rattle.sedck_text.specs.Bytes.{ascii, carriage_return}
use Rattle.sedck_text.specs.Text.{is_in, one_of, begins}
use Rattle.sedck_text.specs.Classes.{is_mark}
use Rattle.sedck_expressions.specs.declared.fault.ReFault.{ReFault}
use Rattle.sedck_commands.specs.Cuts.{newline, backslash, is_newline, is_blank, is_digit, is_label_byte, is_separator, is_ending, can_be_escaped, is_delimiter, is_continued, IsEmptyOr, Longest}
use Rattle.sedck_commands.specs.BracketLists.{BracketList, BracketsClose}
use Rattle.sedck_commands.specs.Program.{Pattern, Place, Address, NoAddress, One, Two, Part, Group, Verb, Label}
use Rattle.sedck_commands.specs.ReadAlike.{is_misread, begins_control, has_control, greatest_group, HasGroups, begins_braced_comment, IsNoComment, HasNoInnerReturn, read_alike}
use Rattle.sedck_commands.specs.Parts.{Ends, Number, DelimitedExpression, ExpressionText, IsPatternIn, DelimitedList, FirstList, EscapedPart, is_plain, Replacement, GivenText, PlaceText}
use Rattle.sedck_commands.specs.Items.{WrittenVerb, Known, JumpTo, Opening, Simple, VerbText, CommandText, Item, Written, Closing}
use Rattle.sedck_commands.specs.Labels.{commands_among, IsLabelOf}
use Rattle.sedck_commands.specs.Blocks.{Turn, Opens, Closes, Stays, Jumps, verb_turn}
use Rattle.sedck_commands.specs.Faults.{verb_bytes, begins_address, BeginsCommand, IsNoExpression, IsMisjudged}
use Rattle.sedck_commands.specs.declared.fault.ScriptFault.{ScriptFault}
use Rattle.sedck_commands.specs.declared.fault.ScriptFault.TheVariants.{UnknownCommand, BadAddress, TooManyAddresses, BadExpression, Unterminated, BadReplacement, BadFlag, BadTransliteration, MissingText, MissingName, BadLabel, DuplicateLabel, UnopenedBlock, UnclosedBlock, TooDeep, TooManyCommands, ExtraText, EscapedDelimiter}

-- the text, which ends one of this size, begins at the offset
abbrev pub BeginsAt : ℕ → List ℕ → ℕ → Type 0
BeginsAt size text offset = offset + length text ≡ size

-- ---- Ends, texts and names

-- after blanks comes a byte that ends no command
pub data EndFault (size : ℕ) (text : List ℕ) : ScriptFault → Type 0 where
  extra : {blanks behind : List ℕ} {b offset : ℕ} → Longest is_blank text blanks (b ∷ behind) → is_ending b ≡ false → BeginsAt size (b ∷ behind) offset
      → EndFault size text (ExtraText offset)

-- After the flags of a substitution, a comment whose line is joined with the next one ends badly: at its last byte.
pub data EndFlagsFault (size : ℕ) (text : List ℕ) : ScriptFault → Type 0 where
  ends : {fault : ScriptFault} → EndFault size text fault → EndFlagsFault size text fault
  joined : {rest line behind : List ℕ} {offset : ℕ} → Ends text rest → IsTrue (begins "#" rest) → Longest (λ b. not (is_newline b)) rest line behind
      → 0 < length behind → is_continued line ≡ true → BeginsAt size behind (offset + 1) → EndFlagsFault size text (ExtraText offset)

-- a carriage return is in a comment, the first of its line, and not at its end
pub data CommentFault (size : ℕ) (text : List ℕ) : ScriptFault → Type 0 where
  inner_return : {line rest : List ℕ} {offset : ℕ} (front more : List ℕ) → Longest (λ b. not (is_newline b)) text line rest
      → line ≡ front ++ carriage_return ∷ more → (Contains front carriage_return → ⊥) → 0 < length more → BeginsAt size ((carriage_return ∷ more) ++ rest) offset
      → CommentFault size text (ExtraText offset)

-- after the verb's blanks there is no text
pub data TextFault (opening : ℕ) (text : List ℕ) : ScriptFault → Type 0 where
  missing : {blanks begins : List ℕ} → Longest is_blank text blanks begins → ((bytes rest : List ℕ) → GivenText begins bytes rest → ⊥)
      → TextFault opening text (MissingText opening)

-- the first control character of the text but a tab, with what is after it
pub data FirstControl : List ℕ → List ℕ → Type 0 where
  here : {text : List ℕ} → begins_control text ≡ true → FirstControl text text
  later : {b : ℕ} {text behind : List ℕ} → begins_control (b ∷ text) ≡ false → FirstControl text behind → FirstControl (b ∷ text) behind

-- After blanks there is no name, or one with a control character but a tab, the first of which is reported, or one whose line is joined with the next one.
pub data NameFault (size opening : ℕ) (text : List ℕ) : ScriptFault → Type 0 where
  missing : {blanks rest : List ℕ} → Longest is_blank text blanks rest → IsEmptyOr is_newline rest → NameFault size opening text (MissingName opening)
  control : {blanks begins name rest behind : List ℕ} {offset : ℕ} → Longest is_blank text blanks begins
      → Longest (λ b. not (is_newline b)) begins name rest → FirstControl name behind → BeginsAt size (behind ++ rest) offset
      → NameFault size opening text (ExtraText offset)
  joined : {blanks begins name rest : List ℕ} {offset : ℕ} → Longest is_blank text blanks begins → Longest (λ b. not (is_newline b)) begins name rest
      → 0 < length name → has_control name ≡ false → 0 < length rest → is_continued name ≡ true
      → BeginsAt size rest (offset + 1) → NameFault size opening text (ExtraText offset)

-- ---- Parts between delimiters

-- The text is over before the part is, or a newline begins it, or a delimiter that can't be escaped.
pub data PieceFault (size opening delimiter : ℕ) (text : List ℕ) : ScriptFault → Type 0 where
  over : text ≡ [] → PieceFault size opening delimiter text (Unterminated opening)
  line : {behind : List ℕ} → text ≡ newline ∷ behind → PieceFault size opening delimiter text (Unterminated opening)
  last : text ≡ backslash ∷ [] → PieceFault size opening delimiter text (Unterminated opening)
  forbidden : {behind : List ℕ} {offset : ℕ} → text ≡ backslash ∷ delimiter ∷ behind → can_be_escaped delimiter ≡ false → BeginsAt size text offset
      → PieceFault size opening delimiter text (EscapedDelimiter offset)

-- an expression after its opening delimiter: a newline ends none, escaped or not
pub data CutFault (size opening delimiter : ℕ) : List ℕ → ScriptFault → Type 0 where
  piece : {text : List ℕ} {fault : ScriptFault} → PieceFault size opening delimiter text fault → CutFault size opening delimiter text fault
  line : {text behind : List ℕ} → text ≡ backslash ∷ newline ∷ behind → CutFault size opening delimiter text (Unterminated opening)
  byte : {text behind : List ℕ} {b : ℕ} {fault : ScriptFault} → text ≡ b ∷ behind → b ≢ delimiter → b ≢ backslash → b ≢ newline
      → CutFault size opening delimiter behind fault → CutFault size opening delimiter text fault
  escaped : {text behind : List ℕ} {fault : ScriptFault} → text ≡ backslash ∷ delimiter ∷ behind → IsTrue (can_be_escaped delimiter)
      → CutFault size opening delimiter behind fault → CutFault size opening delimiter text fault
  pair : {text behind : List ℕ} {b : ℕ} {fault : ScriptFault} → text ≡ backslash ∷ b ∷ behind → b ≢ delimiter → b ≢ newline
      → CutFault size opening delimiter behind fault → CutFault size opening delimiter text fault

-- the same, or some sed reads an escaped delimiter otherwise: the first one, up to which the text has the very bytes of the expression
pub data ExpressionTextFault (size opening delimiter : ℕ) (text : List ℕ) : ScriptFault → Type 0 where
  cut : {fault : ScriptFault} → CutFault size opening delimiter text fault → ExpressionTextFault size opening delimiter text fault
  misread : {expression rest : List ℕ} {offset : ℕ} (front behind more : List ℕ) → DelimitedExpression delimiter text expression rest
      → IsTrue (is_misread delimiter expression) → text ≡ front ++ backslash ∷ delimiter ∷ behind → expression ≡ front ++ delimiter ∷ more
      → BeginsAt size (backslash ∷ delimiter ∷ behind) offset → ExpressionTextFault size opening delimiter text (EscapedDelimiter offset)

-- the same, or the expression is refused
pub data PatternFault (size opening delimiter : ℕ) (text : List ℕ) : ScriptFault → Type 0 where
  unread : {fault : ScriptFault} → ExpressionTextFault size opening delimiter text fault → PatternFault size opening delimiter text fault
  refused : {expression rest : List ℕ} {cause : ReFault} {offset : ℕ} → ExpressionText delimiter text expression rest → 0 < length expression
      → IsNoExpression expression cause ⊎ IsMisjudged expression cause → BeginsAt size text offset
      → PatternFault size opening delimiter text (BadExpression offset cause)

-- a list of `y` after the delimiter in front of it: a backslash is before a byte without a meaning there
pub data ListFault (size opening delimiter : ℕ) : List ℕ → ScriptFault → Type 0 where
  piece : {text : List ℕ} {fault : ScriptFault} → PieceFault size opening delimiter text fault → ListFault size opening delimiter text fault
  line : {text behind : List ℕ} → text ≡ backslash ∷ newline ∷ behind → ListFault size opening delimiter text (Unterminated opening)
  meaningless : {text behind : List ℕ} {b offset : ℕ} → text ≡ backslash ∷ b ∷ behind → b ≢ delimiter → b ≢ newline → b ≢ backslash → b ≢ ascii "n"
      → BeginsAt size text offset → ListFault size opening delimiter text (BadTransliteration offset)
  byte : {text behind : List ℕ} {b : ℕ} {fault : ScriptFault} → text ≡ b ∷ behind → b ≢ delimiter → b ≢ backslash → b ≢ newline
      → ListFault size opening delimiter behind fault → ListFault size opening delimiter text fault
  escaped : {text behind : List ℕ} {fault : ScriptFault} → text ≡ backslash ∷ delimiter ∷ behind → IsTrue (can_be_escaped delimiter)
      → ListFault size opening delimiter behind fault → ListFault size opening delimiter text fault
  meant : {text behind : List ℕ} {b : ℕ} {fault : ScriptFault} → text ≡ backslash ∷ b ∷ behind → b ≢ delimiter → (b ≡ backslash) ⊎ (b ≡ ascii "n")
      → ListFault size opening delimiter behind fault → ListFault size opening delimiter text fault

-- the first list of `y`: it is read, and a bracket list that it opens isn't closed in it, the first such one
pub data FirstListFault (size opening delimiter : ℕ) (text : List ℕ) : ScriptFault → Type 0 where
  list : {fault : ScriptFault} → ListFault size opening delimiter text fault → FirstListFault size opening delimiter text fault
  bracket : {bytes rest written more : List ℕ} {offset : ℕ} → DelimitedList delimiter text bytes rest → text ≡ written ++ delimiter ∷ rest
      → BracketsClose written (ascii "[" ∷ more) → ((end : List ℕ) → BracketList more end → ⊥)
      → BeginsAt size (ascii "[" ∷ (more ++ delimiter ∷ rest)) offset → FirstListFault size opening delimiter text (BadTransliteration offset)

-- a part of a replacement that names no group above the greatest one
abbrev pub IsPartWithin : ℕ → Part → Type 0
IsPartWithin greatest (Group k) = k ≤ greatest
IsPartWithin greatest _ = Unit {0}

-- a replacement after the delimiter in front of it: a backslash is before a byte without a meaning there
pub data ReplacementFault (size opening delimiter greatest : ℕ) : List ℕ → ScriptFault → Type 0 where
  piece : {text : List ℕ} {fault : ScriptFault} → PieceFault size opening delimiter text fault → ReplacementFault size opening delimiter greatest text fault
  meaningless : {text behind : List ℕ} {b offset : ℕ} → text ≡ backslash ∷ b ∷ behind → b ≢ delimiter
      → ((part : Part) → EscapedPart b part → IsPartWithin greatest part → ⊥) → BeginsAt size text offset
      → ReplacementFault size opening delimiter greatest text (BadReplacement offset)
  whole : {text behind : List ℕ} {fault : ScriptFault} → text ≡ ascii "&" ∷ behind → ascii "&" ≢ delimiter
      → ReplacementFault size opening delimiter greatest behind fault → ReplacementFault size opening delimiter greatest text fault
  escaped : {text behind : List ℕ} {fault : ScriptFault} → text ≡ backslash ∷ delimiter ∷ behind → IsTrue (can_be_escaped delimiter)
      → ReplacementFault size opening delimiter greatest behind fault → ReplacementFault size opening delimiter greatest text fault
  part : {text behind : List ℕ} {b : ℕ} {first : Part} {fault : ScriptFault} → text ≡ backslash ∷ b ∷ behind → b ≢ delimiter → EscapedPart b first
      → IsPartWithin greatest first → ReplacementFault size opening delimiter greatest behind fault
      → ReplacementFault size opening delimiter greatest text fault
  run : {text bytes behind : List ℕ} {b : ℕ} {fault : ScriptFault} → Longest (is_plain delimiter) text (b ∷ bytes) behind
      → ReplacementFault size opening delimiter greatest behind fault → ReplacementFault size opening delimiter greatest text fault

-- ---- Addresses

-- the text doesn't begin with a delimiter
abbrev pub HasNoDelimiter : List ℕ → Type 0
HasNoDelimiter text = IsEmptyOr (λ b. not (is_delimiter b)) text

-- one address
pub data PlaceFault (size : ℕ) (text : List ℕ) : ScriptFault → Type 0 where
  number : {behind : List ℕ} {b offset : ℕ} → text ≡ b ∷ behind → is_digit b ≡ true → ((n : ℕ) (rest : List ℕ) → Number text n rest → ⊥)
      → BeginsAt size text offset → PlaceFault size text (BadAddress offset)
  context : {behind : List ℕ} {opening : ℕ} {fault : ScriptFault} → text ≡ ascii "/" ∷ behind → BeginsAt size text opening
      → PatternFault size opening (ascii "/") behind fault → PlaceFault size text fault
  undelimited : {behind : List ℕ} {opening : ℕ} → text ≡ backslash ∷ behind → HasNoDelimiter behind → BeginsAt size text opening
      → PlaceFault size text (Unterminated opening)
  custom : {behind : List ℕ} {delimiter opening : ℕ} {fault : ScriptFault} → text ≡ backslash ∷ delimiter ∷ behind → IsTrue (is_delimiter delimiter)
      → BeginsAt size text opening → PatternFault size opening delimiter behind fault → PlaceFault size text fault

-- after the blanks at the start come a comma and blanks, and then the second text
pub record IsAfterComma (text second : List ℕ) : Type 0 where
  pub blanks : List ℕ
  pub more : List ℕ
  pub front : List ℕ
  pub before : Longest is_blank text blanks (ascii "," ∷ more)
  pub after : Longest is_blank more front second

-- the text begins with no byte of an address
abbrev pub BeginsNoAddress : List ℕ → Type 0
BeginsNoAddress text = IsEmptyOr (λ b. not (begins_address b)) text

-- after the blanks at the start there is no comma
abbrev pub HasNoComma : List ℕ → Type 0
HasNoComma text = (blanks more : List ℕ) → Longest is_blank text blanks (ascii "," ∷ more) → ⊥

-- the addresses of a command
pub data AddressFault (size : ℕ) (text : List ℕ) : ScriptFault → Type 0 where
  first : {fault : ScriptFault} → PlaceFault size text fault → AddressFault size text fault
  missing : {place : Place} {behind second : List ℕ} {offset : ℕ} → PlaceText text place behind → IsAfterComma behind second → BeginsNoAddress second
      → BeginsAt size second offset → AddressFault size text (BadAddress offset)
  second : {place : Place} {behind second : List ℕ} {fault : ScriptFault} → PlaceText text place behind → IsAfterComma behind second
      → PlaceFault size second fault → AddressFault size text fault

-- these are all the addresses with which the text begins
pub data AreAddresses (text : List ℕ) : Address → List ℕ → Type 0 where
  none : BeginsNoAddress text → AreAddresses text NoAddress text
  one : {place : Place} {behind : List ℕ} → PlaceText text place behind → HasNoComma behind → AreAddresses text (One place) behind
  two : {from to : Place} {behind second rest : List ℕ} → PlaceText text from behind → IsAfterComma behind second → PlaceText second to rest
      → AreAddresses text (Two from to) rest

-- ---- Empty expressions

-- an empty expression begins the text: its delimiter is there twice, and the second one is at the offset
abbrev pub EmptyEnds : ℕ → ℕ → List ℕ → ℕ → Type 0
EmptyEnds size delimiter text offset =
    (rest : List ℕ) × (text ≡ delimiter ∷ delimiter ∷ rest) × IsTrue (is_delimiter delimiter) × BeginsAt size (delimiter ∷ rest) offset

-- an address that is an empty expression begins the text
abbrev pub EmptyPlace : ℕ → List ℕ → ℕ → Type 0
EmptyPlace size text offset = EmptyEnds size (ascii "/") text offset
    ⊎ ((delimiter : ℕ) × (behind : List ℕ) × (text ≡ backslash ∷ behind) × EmptyEnds size delimiter behind offset)

-- a verb with an empty expression begins the text
abbrev pub EmptyVerb : ℕ → List ℕ → ℕ → Type 0
EmptyVerb size text offset = (delimiter : ℕ) × (behind : List ℕ) × (text ≡ ascii "s" ∷ behind) × EmptyEnds size delimiter behind offset

-- ---- Verbs

-- a byte that may begin a flag of a substitution, or its end
abbrev pub begins_flag : ℕ → Bool
begins_flag b = one_of "gpw" b || (is_digit b || (is_blank b || is_ending b))

-- the flags of a substitution, where these have been read: `g`, `p` and a number
pub data FlagsFault (size : ℕ) : Bool → Bool → Bool → List ℕ → ScriptFault → Type 0 where
  ends : {global print numbered : Bool} {text behind : List ℕ} {b : ℕ} {fault : ScriptFault} → text ≡ b ∷ behind → (is_blank b || is_ending b) ≡ true
      → EndFlagsFault size text fault → FlagsFault size global print numbered text fault
  unknown : {global print numbered : Bool} {text behind : List ℕ} {b offset : ℕ} → text ≡ b ∷ behind → begins_flag b ≡ false → BeginsAt size text offset
      → FlagsFault size global print numbered text (BadFlag offset)
  no_number : {global print numbered : Bool} {text behind : List ℕ} {b offset : ℕ} → text ≡ b ∷ behind → is_digit b ≡ true
      → ((n : ℕ) (rest : List ℕ) → Number text n rest → ⊥) → BeginsAt size text offset → FlagsFault size global print numbered text (BadFlag offset)
  file : {global print numbered : Bool} {text behind : List ℕ} {opening : ℕ} {fault : ScriptFault} → text ≡ ascii "w" ∷ behind
      → BeginsAt size text opening → NameFault size opening behind fault → FlagsFault size global print numbered text fault
  global_again : {print numbered : Bool} {text behind : List ℕ} {offset : ℕ} → text ≡ ascii "g" ∷ behind → BeginsAt size text offset
      → FlagsFault size true print numbered text (BadFlag offset)
  print_again : {global numbered : Bool} {text behind : List ℕ} {offset : ℕ} → text ≡ ascii "p" ∷ behind → BeginsAt size text offset
      → FlagsFault size global true numbered text (BadFlag offset)
  number_again : {global print : Bool} {text behind : List ℕ} {nth offset : ℕ} → Number text nth behind → BeginsAt size text offset
      → FlagsFault size global print true text (BadFlag offset)
  global : {print numbered : Bool} {text behind : List ℕ} {fault : ScriptFault} → text ≡ ascii "g" ∷ behind
      → FlagsFault size true print numbered behind fault → FlagsFault size false print numbered text fault
  print : {global numbered : Bool} {text behind : List ℕ} {fault : ScriptFault} → text ≡ ascii "p" ∷ behind
      → FlagsFault size global true numbered behind fault → FlagsFault size global false numbered text fault
  number : {global print : Bool} {text behind : List ℕ} {nth : ℕ} {fault : ScriptFault} → Number text nth behind
      → FlagsFault size global print true behind fault → FlagsFault size global print false text fault

-- what a `s` takes
pub data SubstitutionFault (size opening : ℕ) (text : List ℕ) : ScriptFault → Type 0 where
  undelimited : HasNoDelimiter text → SubstitutionFault size opening text (Unterminated opening)
  pattern : {delimiter : ℕ} {behind : List ℕ} {fault : ScriptFault} → text ≡ delimiter ∷ behind → IsTrue (is_delimiter delimiter)
      → PatternFault size opening delimiter behind fault → SubstitutionFault size opening text fault
  replacement : {delimiter : ℕ} {behind expression after : List ℕ} {pattern : Pattern} {fault : ScriptFault} → text ≡ delimiter ∷ behind
      → IsTrue (is_delimiter delimiter) → ExpressionText delimiter behind expression after → IsPatternIn read_alike expression pattern
      → ReplacementFault size opening delimiter (greatest_group pattern) after fault → SubstitutionFault size opening text fault
  flags : {delimiter : ℕ} {behind expression after flags : List ℕ} {pattern : Pattern} {parts : List Part} {fault : ScriptFault}
      → text ≡ delimiter ∷ behind → IsTrue (is_delimiter delimiter) → ExpressionText delimiter behind expression after
      → IsPatternIn read_alike expression pattern → Replacement delimiter after parts flags → HasGroups pattern parts
      → FlagsFault size false false false flags fault → SubstitutionFault size opening text fault

-- what a `y` takes
pub data TransliterationFault (size opening : ℕ) (text : List ℕ) : ScriptFault → Type 0 where
  undelimited : HasNoDelimiter text → TransliterationFault size opening text (Unterminated opening)
  first : {delimiter : ℕ} {behind : List ℕ} {fault : ScriptFault} → text ≡ delimiter ∷ behind → IsTrue (is_delimiter delimiter)
      → FirstListFault size opening delimiter behind fault → TransliterationFault size opening text fault
  second : {delimiter : ℕ} {behind from after : List ℕ} {fault : ScriptFault} → text ≡ delimiter ∷ behind → IsTrue (is_delimiter delimiter)
      → FirstList delimiter behind from after → ListFault size opening delimiter after fault → TransliterationFault size opening text fault
  lengths : {delimiter : ℕ} {behind from after to rest : List ℕ} → text ≡ delimiter ∷ behind → IsTrue (is_delimiter delimiter)
      → FirstList delimiter behind from after → DelimitedList delimiter after to rest → length from ≢ length to
      → TransliterationFault size opening text (BadTransliteration opening)
  ends : {delimiter : ℕ} {behind from after to rest : List ℕ} {fault : ScriptFault} → text ≡ delimiter ∷ behind → IsTrue (is_delimiter delimiter)
      → FirstList delimiter behind from after → DelimitedList delimiter after to rest → length from ≡ length to → EndFault size rest fault
      → TransliterationFault size opening text fault

-- after blanks come the bytes of a label, or none, and then the rest
pub record IsLabelAt (text name behind : List ℕ) : Type 0 where
  pub blanks : List ℕ
  pub begins : List ℕ
  pub skipped : Longest is_blank text blanks begins
  pub run : Longest is_label_byte begins name behind

-- the label begins at the offset, after blanks
abbrev pub LabelBeginsAt : ℕ → List ℕ → List ℕ → ℕ → Type 0
LabelBeginsAt size text name offset = (behind : List ℕ) × IsLabelAt text name behind × BeginsAt size (name ++ behind) offset

-- a label that is defined: there is none, or a byte that may not be right after it
pub data DefinitionFault (size : ℕ) (text : List ℕ) : ScriptFault → Type 0 where
  missing : {behind : List ℕ} {offset : ℕ} → IsLabelAt text [] behind → BeginsAt size behind offset → DefinitionFault size text (BadLabel offset)
  byte : {name behind : List ℕ} {b offset : ℕ} → IsLabelAt text name (b ∷ behind) → 0 < length name → is_separator b ≡ false
      → BeginsAt size (b ∷ behind) offset → DefinitionFault size text (BadLabel offset)

-- the same, where these labels have been defined: it is one of them, or its command doesn't end after it
pub data LabelFault (size : ℕ) (IsDefined : List ℕ → Type 0) (text : List ℕ) : ScriptFault → Type 0 where
  definition : {fault : ScriptFault} → DefinitionFault size text fault → LabelFault size IsDefined text fault
  duplicate : {name behind : List ℕ} {offset : ℕ} → IsLabelAt text name behind → 0 < length name → IsEmptyOr is_separator behind → IsDefined name
      → BeginsAt size (name ++ behind) offset → LabelFault size IsDefined text (DuplicateLabel offset)
  ends : {name behind : List ℕ} {fault : ScriptFault} → IsLabelAt text name behind → 0 < length name → IsEmptyOr is_separator behind
      → (IsDefined name → ⊥) → EndFault size behind fault → LabelFault size IsDefined text fault

-- a byte that may be right after the label of a branch or a test
abbrev pub ends_label : ℕ → Bool
ends_label b = is_separator b || (b == ascii "}")

-- nothing is wrong with a branch or a test whose label is missing here
abbrev pub MayLackLabel : List ℕ → Type 0
MayLackLabel text = IsNoComment text × IsEmptyOr is_ending text × (begins_braced_comment text ≡ false)

-- the label of a branch or a test
pub data JumpFault (size : ℕ) (text : List ℕ) : ScriptFault → Type 0 where
  missing : {behind : List ℕ} {offset : ℕ} → IsLabelAt text [] behind → (MayLackLabel behind → ⊥) → BeginsAt size behind offset
      → JumpFault size text (BadLabel offset)
  byte : {name behind : List ℕ} {b offset : ℕ} → IsLabelAt text name (b ∷ behind) → 0 < length name → ends_label b ≡ false
      → BeginsAt size (b ∷ behind) offset → JumpFault size text (BadLabel offset)
  ends : {name behind : List ℕ} {fault : ScriptFault} → IsLabelAt text name behind → 0 < length name → IsEmptyOr ends_label behind
      → EndFault size behind fault → JumpFault size text fault
  comment : {name behind rest : List ℕ} {offset : ℕ} → IsLabelAt text name behind → 0 < length name → IsEmptyOr ends_label behind → Ends behind rest
      → begins_braced_comment rest ≡ true → BeginsAt size behind offset → JumpFault size text (BadLabel offset)

-- a verb with what it takes, where these labels have been defined
pub data VerbFault (size : ℕ) (IsDefined : List ℕ → Type 0) (text : List ℕ) : ScriptFault → Type 0 where
  simple : {b : ℕ} {behind : List ℕ} {verb : Verb} {fault : ScriptFault} → text ≡ b ∷ behind → Simple b verb → EndFault size behind fault
      → VerbFault size IsDefined text fault
  no_text : {b opening : ℕ} {behind : List ℕ} {fault : ScriptFault} → text ≡ b ∷ behind → one_of "aci" b ≡ true → BeginsAt size text opening
      → TextFault opening behind fault → VerbFault size IsDefined text fault
  no_name : {b opening : ℕ} {behind : List ℕ} {fault : ScriptFault} → text ≡ b ∷ behind → one_of "rw" b ≡ true → BeginsAt size text opening
      → NameFault size opening behind fault → VerbFault size IsDefined text fault
  label : {behind : List ℕ} {fault : ScriptFault} → text ≡ ascii ":" ∷ behind → LabelFault size IsDefined behind fault
      → VerbFault size IsDefined text fault
  jump : {b : ℕ} {behind : List ℕ} {fault : ScriptFault} → text ≡ b ∷ behind → one_of "bt" b ≡ true → JumpFault size behind fault
      → VerbFault size IsDefined text fault
  substitution : {opening : ℕ} {behind : List ℕ} {fault : ScriptFault} → text ≡ ascii "s" ∷ behind → BeginsAt size text opening
      → SubstitutionFault size opening behind fault → VerbFault size IsDefined text fault
  transliteration : {opening : ℕ} {behind : List ℕ} {fault : ScriptFault} → text ≡ ascii "y" ∷ behind → BeginsAt size text opening
      → TransliterationFault size opening behind fault → VerbFault size IsDefined text fault

-- ---- Commands and items

abbrev pub is_none : Address → Bool
is_none NoAddress = true
is_none (One p) = false
is_none (Two p q) = false

abbrev pub is_two : Address → Bool
is_two NoAddress = false
is_two (One p) = false
is_two (Two p q) = true

-- a command that begins with this byte after its addresses takes them
abbrev pub takes : ℕ → Address → Bool → Bool
takes b given negated =
    if one_of "}#" b then false
    else if b == ascii ":" then is_none given && not negated
    else if b == 113 then not (is_two given)
    else true

-- what is checked at the verb of a command: its addresses, then its block and the number of commands
pub data CheckFault (size : ℕ) (address : Address) (negated : Bool) (depth count : ℕ) (text : List ℕ) : ScriptFault → Type 0 where
  unknown : {offset : ℕ} → IsEmptyOr (λ b. not (is_in b verb_bytes)) text → BeginsAt size text offset
      → CheckFault size address negated depth count text (UnknownCommand offset)
  addresses : {b offset : ℕ} {behind : List ℕ} → text ≡ b ∷ behind → is_in b verb_bytes ≡ true → takes b address negated ≡ false → BeginsAt size text offset
      → CheckFault size address negated depth count text (TooManyAddresses offset)
  deep : {offset : ℕ} {behind : List ℕ} → text ≡ ascii "{" ∷ behind → 64 ≤ depth → BeginsAt size text offset
      → CheckFault size address negated depth count text (TooDeep offset)
  many : {b offset : ℕ} {behind : List ℕ} → text ≡ b ∷ behind → is_in b verb_bytes ≡ true → takes b address negated ≡ true
      → (b ≡ ascii "{" → depth < 64) → 4095 ≤ count → BeginsAt size text offset
      → CheckFault size address negated depth count text (TooManyCommands offset)

-- a verb begins the text, and none of this is wrong there
pub record MayGoOn (address : Address) (negated : Bool) (depth count : ℕ) (text : List ℕ) : Type 0 where
  pub b : ℕ
  pub behind : List ℕ
  pub cut : text ≡ b ∷ behind
  pub verb : is_in b verb_bytes ≡ true
  pub taken : takes b address negated ≡ true
  pub shallow : b ≡ ascii "{" → depth < 64
  pub few : count < 4095

-- A command where so many blocks are open and so many commands are before it. A `}` right after the label of a branch or a test is reported when that has
-- been read to its end.
pub data CommandFault (size : ℕ) (IsDefined : List ℕ → Type 0) (depth count : ℕ) (text : List ℕ) : ScriptFault → Type 0 where
  addresses : {fault : ScriptFault} → AddressFault size text fault → CommandFault size IsDefined depth count text fault
  check : {address : Address} {behind marks begins : List ℕ} {fault : ScriptFault} → AreAddresses text address behind
      → Longest is_mark behind marks begins → CheckFault size address (list_any (λ b. b == ascii "!") marks) depth count begins fault
      → CommandFault size IsDefined depth count text fault
  verb : {address : Address} {behind marks begins : List ℕ} {fault : ScriptFault} → AreAddresses text address behind
      → Longest is_mark behind marks begins → MayGoOn address (list_any (λ b. b == ascii "!") marks) depth count begins
      → VerbFault size IsDefined begins fault → CommandFault size IsDefined depth count text fault
  brace : {address : Address} {behind marks begins rest : List ℕ} {tests : Bool} {label : Option (List ℕ)} {offset : ℕ} → AreAddresses text address behind
      → Longest is_mark behind marks begins → MayGoOn address (list_any (λ b. b == ascii "!") marks) depth count begins
      → VerbText begins (JumpTo tests label true) rest → 2 ≤ depth → BeginsAt size rest offset
      → CommandFault size IsDefined depth count text (BadLabel offset)

-- one of the items defines the label
abbrev pub Defines : List Item → List ℕ → Type 0
Defines items name = (place : ℕ) × IsLabelOf (commands_among items) name place

-- after these items, where so many blocks are open, there may be this verb
pub record IsWithin (items : List Item) (depth : ℕ) (verb : WrittenVerb) : Type 0 where
  pub fresh : (name : List ℕ) → verb ≡ Known (Label name) → Defines items name → ⊥
  pub shallow : verb ≡ Opening → depth < 64
  pub braced : (tests : Bool) (label : Option (List ℕ)) → verb ≡ JumpTo tests label true → depth ≤ 1
  pub few : length (commands_among items) < 4095

-- the place is added where a block is opened
abbrev pub NotesBlock : Turn → List ℕ → List ℕ → ℕ → Type 0
NotesBlock Opens old new place = new ≡ old ++ place ∷ []
NotesBlock Closes old new place = new ≡ old
NotesBlock Stays old new place = new ≡ old
NotesBlock (Jumps braced) old new place = new ≡ old

-- The rest of a text of which these items have been read, and where the `{` of the blocks that are open are at these offsets, the innermost last.
pub data ItemsFault (size : ℕ) : List Item → List ℕ → List ℕ → ScriptFault → Type 0 where
  bad_comment : {items : List Item} {opened text separators begins : List ℕ} {fault : ScriptFault}
      → Longest is_separator text separators (ascii "#" ∷ begins) → CommentFault size begins fault → ItemsFault size items opened text fault
  unopened : {items : List Item} {opened text separators begins : List ℕ} {offset : ℕ} → Longest is_separator text separators (ascii "}" ∷ begins)
      → length opened ≡ 0 → BeginsAt size (ascii "}" ∷ begins) offset → ItemsFault size items opened text (UnopenedBlock offset)
  bad_end : {items : List Item} {opened text separators begins : List ℕ} {fault : ScriptFault} → Longest is_separator text separators (ascii "}" ∷ begins)
      → 0 < length opened → EndFault size begins fault → ItemsFault size items opened text fault
  bad_command : {items : List Item} {opened text separators begins : List ℕ} {fault : ScriptFault} → Longest is_separator text separators begins
      → BeginsCommand begins → CommandFault size (Defines items) (length opened) (length (commands_among items)) begins fault
      → ItemsFault size items opened text fault
  unclosed : {items : List Item} {opened text separators : List ℕ} {last : ℕ} (others : List ℕ) → Longest is_separator text separators []
      → opened ≡ others ++ last ∷ [] → ItemsFault size items opened text (UnclosedBlock last)
  comment : {items : List Item} {opened text separators begins line rest : List ℕ} {fault : ScriptFault}
      → Longest is_separator text separators (ascii "#" ∷ begins) → Longest (λ b. not (is_newline b)) begins line rest → HasNoInnerReturn line
      → ItemsFault size items opened rest fault → ItemsFault size items opened text fault
  closing : {items : List Item} {opened others text separators begins rest : List ℕ} {fault : ScriptFault} (last : ℕ)
      → Longest is_separator text separators (ascii "}" ∷ begins) → opened ≡ others ++ last ∷ [] → Ends begins rest
      → ItemsFault size (items ++ Closing ∷ []) others rest fault → ItemsFault size items opened text fault
  command : {items : List Item} {opened now text separators begins rest : List ℕ} {address : Address} {negated : Bool} {verb : WrittenVerb}
      {fault : ScriptFault} (last : ℕ) → Longest is_separator text separators begins → BeginsCommand begins → CommandText begins address negated verb rest
      → IsWithin items (length opened) verb → NotesBlock (verb_turn verb) opened now last → BeginsAt size rest (last + 1)
      → ItemsFault size (items ++ Written address negated verb ∷ []) now rest fault → ItemsFault size items opened text fault
