-- A script in which commands have other delimiters than in the text that was given, as seds read that one which take a delimiter in a bracket list for a
-- byte of the list (ours: POSIX.1-2024 XCU sed ends the expression there; GNU sed, BusyBox and toybox don't).
use Rattle.std.specs.Prelude.{◌≡◌, ◌≢◌, ◌⊎◌, ◌||◌, ℕ, Bool, true, false, not, if◌then◌else◌, List, [], ◌∷◌, ◌++◌, length, drop}
use Rattle.std.specs.List.{slice_range}
use Rattle.sedck_text.specs.Text.{one_of}
use Rattle.sedck_text.specs.Bytes.{backslash, ascii}
use Rattle.sedck_text.specs.Classes.{is_digit, is_mark}
use Rattle.sedck_commands.specs.Items.{Item, Items}
use Rattle.sedck_commands.specs.Locations.{locations_of}
use Rattle.sedck_commands.specs.declared.location.Location.{Location}
use Rattle.sedck_plain.specs.WrittenLists.{after, is_in_list}
use Rattle.sedck_plain.specs.declared.written.Position.{Position}
use Rattle.sedck_plain.specs.declared.written.Position.TheVariants.{Outside, Inside}

-- a delimiter that is nothing else in an expression or a replacement
abbrev pub is_exchanged : ℕ → Bool
is_exchanged b = one_of "/,|:@%#;~!=" b

-- a byte of a list whose end no sed mistakes: there is no bracket and no backslash in it but its `]`, which isn't first
abbrev pub is_member : Position → ℕ → Bool
is_member Inside b = not (one_of "[\\" b)
is_member position b = not (one_of "[\\]" b)

-- the byte is of a list, or is neither a delimiter nor a backslash
abbrev pub IsForItself : ℕ → Position → ℕ → Type 0
IsForItself given position b =
    ((is_in_list position ≡ true) × (is_member position b ≡ true)) ⊎ ((is_in_list position ≡ false) × (b ≢ given) × (b ≢ backslash))

-- the position after a byte of an expression; a replacement has no lists
abbrev pub position_after : Bool → Position → ℕ → Position
position_after lists position b = if lists then after position b else Outside

-- What a part of the script is in the text, each up to its delimiter; then come the rests. That of the text is the first one outside of lists that no
-- backslash escapes. That of the script is another byte, which the part has nowhere, and the text's one has no backslashes there.
pub data IsPartGiven (lists : Bool) (given other : ℕ) : Position → List ℕ → List ℕ → List ℕ → List ℕ → Type 0 where
  ends : {position : Position} {rest left : List ℕ} → is_in_list position ≡ false → IsPartGiven lists given other position (other ∷ rest) (given ∷ left) rest left
  byte : {position : Position} {b : ℕ} {part text rest left : List ℕ} → b ≢ other → IsForItself given position b
      → IsPartGiven lists given other (position_after lists position b) part text rest left
      → IsPartGiven lists given other position (b ∷ part) (b ∷ text) rest left
  pair : {position : Position} {a b : ℕ} {part text rest left : List ℕ} → is_in_list position ≡ false → a ≡ backslash → b ≢ other → b ≢ given
      → IsPartGiven lists given other position part text rest left
      → IsPartGiven lists given other position (a ∷ b ∷ part) (a ∷ b ∷ text) rest left
  escaped : {position : Position} {a b : ℕ} {part text rest left : List ℕ} → is_in_list position ≡ false → a ≡ backslash → b ≡ given → b ≢ ascii "|"
      → IsPartGiven lists given other position part text rest left
      → IsPartGiven lists given other position (b ∷ part) (a ∷ b ∷ text) rest left

abbrev pub IsExpressionGiven : ℕ → ℕ → List ℕ → List ℕ → List ℕ → List ℕ → Type 0
IsExpressionGiven given other = IsPartGiven true given other Outside

abbrev pub IsReplacementGiven : ℕ → ℕ → List ℕ → List ℕ → List ℕ → List ℕ → Type 0
IsReplacementGiven given other = IsPartGiven false given other Outside

-- an expression that both have, up to the delimiter of both
pub data IsPartKept (delimiter : ℕ) : List ℕ → List ℕ → List ℕ → List ℕ → Type 0 where
  ends : {rest left : List ℕ} → IsPartKept delimiter (delimiter ∷ rest) (delimiter ∷ left) rest left
  byte : {b : ℕ} {part text rest left : List ℕ} → b ≢ delimiter → b ≢ backslash → IsPartKept delimiter part text rest left
      → IsPartKept delimiter (b ∷ part) (b ∷ text) rest left
  pair : {a b : ℕ} {part text rest left : List ℕ} → a ≡ backslash → IsPartKept delimiter part text rest left
      → IsPartKept delimiter (a ∷ b ∷ part) (a ∷ b ∷ text) rest left

-- What an address is in the text that has this delimiter in the script, after it and its backslash there: the same, or one with another delimiter.
pub data IsAddressGiven (other : ℕ) : List ℕ → List ℕ → List ℕ → List ℕ → Type 0 where
  same : {a b : ℕ} {part text rest left : List ℕ} → a ≡ backslash → b ≡ other → IsPartKept other part text rest left
      → IsAddressGiven other part (a ∷ b ∷ text) rest left
  slash : {b : ℕ} {part text rest left : List ℕ} → b ≡ ascii "/" → IsExpressionGiven (ascii "/") other part text rest left
      → IsAddressGiven other part (b ∷ text) rest left
  custom : {a b : ℕ} {part text rest left : List ℕ} → a ≡ backslash → is_exchanged b ≡ true → IsExpressionGiven b other part text rest left
      → IsAddressGiven other part (a ∷ b ∷ text) rest left

-- a byte of an address that begins no expression, or what is between addresses and a verb
abbrev pub is_passed : ℕ → Bool
is_passed b = is_digit b || is_mark b || one_of "$," b

-- What a command of the script is at the beginning of the text; then comes the rest. Addresses and an `s` may have other delimiters. From some address or
-- verb on both are the same.
pub data IsCommandGiven : List ℕ → List ℕ → List ℕ → Type 0 where
  same : {command rest : List ℕ} → IsCommandGiven command (command ++ rest) rest
  passed : {b : ℕ} {command text rest : List ℕ} → is_passed b ≡ true → IsCommandGiven command text rest → IsCommandGiven (b ∷ command) (b ∷ text) rest
  slash : {b : ℕ} {command text more behind rest : List ℕ} → b ≡ ascii "/" → IsPartKept (ascii "/") command text more behind
      → IsCommandGiven more behind rest → IsCommandGiven (b ∷ command) (b ∷ text) rest
  custom : {a other : ℕ} {command text more behind rest : List ℕ} → a ≡ backslash → IsAddressGiven other command text more behind
      → IsCommandGiven more behind rest → IsCommandGiven (a ∷ other ∷ command) text rest
  substitute : {a b other : ℕ} {command text middle between more rest : List ℕ} → a ≡ ascii "s" → is_exchanged b ≡ true
      → IsExpressionGiven b other command text middle between → IsReplacementGiven b other middle between more (more ++ rest)
      → IsCommandGiven (a ∷ other ∷ command) (a ∷ b ∷ text) rest

-- From this offset of the script on, which has commands at these locations, this is the text: outside of commands it is the same.
abbrev pub AreGiven : List ℕ → ℕ → List Location → List ℕ → Type 0
AreGiven script from [] text = text ≡ drop from script
AreGiven script from (location ∷ more) text = (begin rest : List ℕ) × (text ≡ slice_range script from location.start ++ begin)
    × IsCommandGiven (slice_range script location.start location.end) begin rest × AreGiven script location.end more rest

-- The script has the items of the text, as those seds read it: only delimiters are other ones.
pub record IsMended (text script : List ℕ) : Type 0 where
  pub items : List Item
  pub spelled : Items script items
  pub given : AreGiven script 0 (locations_of (length script) spelled) text
