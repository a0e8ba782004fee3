-- Which fault the text of a script has (docs/FAULTS.md): its size and its bytes are looked at first, then its items from left to right, and where all of
-- them are read, first their labels and then their empty expressions. This project's own.
use Rattle.std.specs.Prelude.{◌≡◌, ℕ, ◌+◌, ◌<◌, ◌≤◌, Bool, false, List, [], ◌∷◌, ◌++◌, length, drop, flat_map, Contains, Some, slice_get}
use Rattle.sedck_commands.specs.Program.{Address, pattern_expressions}
use Rattle.sedck_commands.specs.ReadAlike.{IsScriptText}
use Rattle.sedck_commands.specs.Items.{JumpTo, Item, Written, Items}
use Rattle.sedck_commands.specs.Labels.{commands_among, AreLabelsOnce}
use Rattle.sedck_commands.specs.Blocks.{Nests}
use Rattle.sedck_commands.specs.Locations.{locations_of}
use Rattle.sedck_commands.specs.ReadItems.{item_patterns, has_previous, CommandEmpty}
use Rattle.sedck_commands.specs.Faults.{IsFirstZero}
use Rattle.sedck_commands.specs.FirstFaults.{Defines, LabelBeginsAt, ItemsFault}
use Rattle.sedck_commands.specs.declared.fault.ScriptFault.{ScriptFault}
use Rattle.sedck_commands.specs.declared.location.Location.{Location}
use Rattle.sedck_commands.specs.declared.fault.ScriptFault.TheVariants.{TooLong, NulByte, UnknownLabel, NoPreviousExpression}

-- the text has these items, which close each block and are within the limits, and whose labels are there once
pub record HasItems (text : List ℕ) (items : List Item) : Type 0 where
  pub spelled : Items text items
  pub nests : Nests items 0
  pub once : AreLabelsOnce (commands_among items)
  pub few : length (commands_among items) ≤ 4095

-- the item is a branch or a test to the label
abbrev pub JumpsTo : Item → List ℕ → Type 0
JumpsTo item name = (address : Address) × (negated tests braced : Bool) × (item ≡ Written address negated (JumpTo tests (Some name) braced))

-- the items define the label of each branch and test among some
abbrev pub AreJumpsDefined : List Item → List Item → Type 0
AreJumpsDefined items some = (jump : Item) (name : List ℕ) → Contains some jump → JumpsTo jump name → Defines items name

-- What is wrong with items that are read: the first jump to a label that none of them defines, at this label, or else the first empty expression where all
-- are empty. The location is that of the command after the items in front.
pub data LinksFault (text : List ℕ) (items : List Item) (spelled : Items text items) : ScriptFault → Type 0 where
  label : {offset : ℕ} {name : List ℕ} {location : Location} (front more : List Item) (jump : Item) → items ≡ front ++ jump ∷ more → JumpsTo jump name
      → (Defines items name → ⊥) → AreJumpsDefined items front
      → slice_get (locations_of (length text) spelled) (length (commands_among front)) ≡ Some location
      → LabelBeginsAt (length text) (drop (location.verb + 1) text) name offset → LinksFault text items spelled (UnknownLabel offset)
  expression : {offset : ℕ} {location : Location} (front more : List Item) (empty : Item) → AreJumpsDefined items items
      → flat_map pattern_expressions (item_patterns items) ≡ [] → items ≡ front ++ empty ∷ more → has_previous (item_patterns front) ≡ false
      → slice_get (locations_of (length text) spelled) (length (commands_among front)) ≡ Some location
      → CommandEmpty (length text) (drop location.start text) offset → LinksFault text items spelled (NoPreviousExpression offset)

-- the first fault of a text that spells no script
pub data IsFirstFault (text : List ℕ) : ScriptFault → Type 0 where
  too_long : 1048576 < length text → IsFirstFault text (TooLong 1048576)
  zero : {offset : ℕ} → length text ≤ 1048576 → IsFirstZero text offset → IsFirstFault text (NulByte offset)
  items : {fault : ScriptFault} → IsScriptText text → ItemsFault (length text) [] [] text fault → IsFirstFault text fault
  links : {items : List Item} {fault : ScriptFault} → IsScriptText text → (has : HasItems text items) → LinksFault text items has.spelled fault
      → IsFirstFault text fault
