-- How far a command has been read, and which bracket lists it has.
use Rattle.std.specs.Prelude.{◌≡◌, ◌≢◌, ℕ, Bool, true, not, ◌||◌, if◌then◌else◌, List, [], ◌∷◌, length, ◌++◌, drop, Vec}
use Rattle.std.specs.Global.{Global}
use Rattle.sedck_text.specs.Text.{one_of}
use Rattle.sedck_commands.specs.Program.{Address}
use Rattle.sedck_commands.specs.Parts.{DelimitedExpression}
use Rattle.sedck_commands.specs.Items.{WrittenVerb, CommandText, Item, Items}
use Rattle.sedck_commands.specs.Locations.{locations_of}
use Rattle.sedck_commands.specs.declared.location.Location.{Location}
pub use Rattle.sedck_plain.specs.Mended.{is_passed}
use Rattle.sedck_plain.specs.WrittenLists.{after, is_in_list, lists_from, expression_lists, command_lists, written_lists}
use Rattle.sedck_plain.specs.declared.written.Position.{Position}
use Rattle.sedck_plain.specs.declared.written.Position.TheVariants.{Outside}

-- the byte, where it is of a list
abbrev pub kept : Position → ℕ → List ℕ
kept position b = if is_in_list position || is_in_list (after position b) then b ∷ [] else []

-- each expression of the text begins with these lists, and goes on in the rest, where it is read from the second position on
abbrev pub IsReadUpTo : ℕ → Position → List ℕ → List ℕ → Position → List ℕ → Type 0
IsReadUpTo delimiter from text lists to rest =
    (all left : List ℕ) → DelimitedExpression delimiter text all left
    → (more : List ℕ) × (lists_from from all ≡ lists ++ lists_from to more) × DelimitedExpression delimiter rest more left

-- so far each expression of the text has added its lists to those before, and it goes on in the rest
abbrev pub HasAdded : ℕ → List ℕ → List ℕ → List ℕ → Position → List ℕ → Type 0
HasAdded delimiter text before lists position rest =
    (all left : List ℕ) → DelimitedExpression delimiter text all left
    → (more : List ℕ) × (before ++ lists_from Outside all ≡ lists ++ lists_from position more) × DelimitedExpression delimiter rest more left

-- each expression of the text adds its lists to those before, and this is after it
abbrev pub AreAdded : ℕ → List ℕ → List ℕ → List ℕ → List ℕ → Type 0
AreAdded delimiter text before lists rest = (expression left : List ℕ) → delimiter ≢ 92 → DelimitedExpression delimiter text expression left
    → (lists ≡ before ++ expression_lists expression) × (left ≡ rest)

-- the verb of a command that has no expression
abbrev pub is_other : ℕ → Bool
is_other b = not (is_passed b || one_of "/\\s" b)

-- What is left of a command has these lists.
pub data HasLeft : List ℕ → List ℕ → Type 0 where
  passed : {b : ℕ} {text lists : List ℕ} → is_passed b ≡ true → HasLeft text lists → HasLeft (b ∷ text) lists
  context : {b : ℕ} {text expression rest lists : List ℕ} → b ≡ 47 → DelimitedExpression 47 text expression rest → HasLeft rest lists
      → HasLeft (b ∷ text) (expression_lists expression ++ lists)
  custom : {b d : ℕ} {text expression rest lists : List ℕ} → b ≡ 92 → d ≢ 92 → DelimitedExpression d text expression rest → HasLeft rest lists
      → HasLeft (b ∷ d ∷ text) (expression_lists expression ++ lists)
  substitute : {b d : ℕ} {text expression rest : List ℕ} → b ≡ 115 → d ≢ 92 → DelimitedExpression d text expression rest
      → HasLeft (b ∷ d ∷ text) (expression_lists expression)
  other : {b : ℕ} {text : List ℕ} → is_other b ≡ true → HasLeft (b ∷ text) []

-- a command with which the text begins has these lists
abbrev pub AreLists : List ℕ → List ℕ → Type 0
AreLists text lists = (all : List ℕ) → HasLeft text all → all ≡ lists

-- a command at the location has these lists
abbrev pub AreCommandLists : List ℕ → Location → List ℕ → Type 0
AreCommandLists text location lists = (begin : List ℕ) (address : Address) (negated : Bool) (verb : WrittenVerb) (rest : List ℕ)
    (here : CommandText begin address negated verb rest) → begin ≡ drop location.start text → command_lists here ≡ lists

-- those at the locations have these, one by one
abbrev pub AreScriptLists : List ℕ → List Location → List (List ℕ) → Type 0
AreScriptLists text [] all = all ≡ []
AreScriptLists text (location ∷ locations) [] = ⊥
AreScriptLists text (location ∷ locations) (lists ∷ all) = AreCommandLists text location lists × AreScriptLists text locations all

abbrev pub bytes_of : Vec ℕ Global → List ℕ
bytes_of bytes = bytes.items

-- the commands of the text are at these locations
abbrev pub AreLocations : List ℕ → List Location → Type 0
AreLocations text locations = (items : List Item) (spelled : Items text items) → locations ≡ locations_of (length text) spelled

-- the script has these lists, command by command
abbrev pub HasLists : List ℕ → List (List ℕ) → Type 0
HasLists text all = (items : List Item) (spelled : Items text items) → written_lists spelled ≡ all
