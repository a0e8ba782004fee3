-- What is known of the items that were read from a text, as where their labels and empty expressions are.
use Rattle.std.specs.Prelude.{◌≡◌, ℕ, ◌+◌, ◌≤◌, Bool, true, false, List, [], ◌∷◌, ◌++◌, length, drop, map, flat_map, All, Option, Some, None, IfSome, option_copied}
use Rattle.sedck_text.specs.Classes.{is_mark}
use Rattle.sedck_commands.specs.Cuts.{Longest}
use Rattle.sedck_commands.specs.Parts.{PlaceText}
use Rattle.sedck_commands.specs.Program.{Pattern, Previous, Expression, Place, Address, place_patterns, address_patterns, verb_patterns}
use Rattle.sedck_commands.specs.Items.{WrittenVerb, Known, JumpTo, Opening, Item, Written, Closing, Items}
use Rattle.sedck_commands.specs.ItemView.{item_of, locations_in}
use Rattle.sedck_commands.specs.Locations.{locations_of}
use Rattle.sedck_commands.specs.Labels.{commands_among, HasLabels}
use Rattle.sedck_commands.specs.Blocks.{Nests}
use Rattle.sedck_commands.specs.FirstFaults.{LabelBeginsAt, IsAfterComma, AreAddresses, EmptyPlace, EmptyVerb}
use Rattle.sedck_commands.specs.declared.items.Written.{Written as WrittenCode}
use Rattle.sedck_commands.specs.declared.items.Written.TheVariants as code
use Rattle.sedck_commands.specs.declared.items.WrittenCommand.{WrittenCommand}
use Rattle.sedck_commands.specs.declared.items.WrittenItem.{WrittenItem}
use Rattle.sedck_commands.specs.declared.items.WrittenItem.TheVariants as item
use Rattle.sedck_commands.specs.declared.items.Progress.{Progress}

-- this text, which ends one of this size, is right after the verb: the label of a branch or a test begins at its offset there, after blanks
abbrev pub IsJumpIn : ℕ → List ℕ → WrittenCode → Type 0
IsJumpIn size text (code.JumpTo jump) = IfSome (option_copied jump.label) (λ name. LabelBeginsAt size text name jump.offset)
IsJumpIn size text (code.Known verb) = Unit {0}
IsJumpIn size text (code.Label name) = Unit {0}
IsJumpIn size text code.Opening = Unit {0}

-- where the command's verb is a branch or a test, its label is the one after this very verb
abbrev pub IsLabelOfCommand : List ℕ → WrittenCommand → Type 0
IsLabelOfCommand text c = IsJumpIn (length text) (drop (c.location.verb + 1) text) c.verb

-- the same of an item
abbrev pub IsItemAt : List ℕ → WrittenItem → Type 0
IsItemAt text (item.Command c) = IsLabelOfCommand text c
IsItemAt text item.Closing = Unit {0}

-- one of the patterns is empty
abbrev pub has_previous : List Pattern → Bool
has_previous [] = false
has_previous (Previous ∷ patterns) = true
has_previous (Expression tree ∷ patterns) = has_previous patterns

-- The first of the patterns that is empty ends at the offset; or there is no offset, and none is empty.
abbrev pub IsFirstEmpty : List Pattern → (ℕ → Type 0) → Option ℕ → Type 0
IsFirstEmpty patterns EndsAt None = has_previous patterns ≡ false
IsFirstEmpty patterns EndsAt (Some offset) = EndsAt offset

-- at the offset ends the first empty expression of the addresses with which the text begins
pub data AddressEmpty (size : ℕ) (text : List ℕ) (offset : ℕ) : Type 0 where
  first : EmptyPlace size text offset → AddressEmpty size text offset
  second : {place : Place} {behind second : List ℕ} → PlaceText text place behind → has_previous (place_patterns place) ≡ false
      → IsAfterComma behind second → EmptyPlace size second offset → AddressEmpty size text offset

-- at the offset ends the first empty expression of the command with which the text begins
pub data CommandEmpty (size : ℕ) (text : List ℕ) (offset : ℕ) : Type 0 where
  of_address : AddressEmpty size text offset → CommandEmpty size text offset
  of_verb : {address : Address} {behind marks begins : List ℕ} → AreAddresses text address behind → has_previous (address_patterns address) ≡ false
      → Longest is_mark behind marks begins → EmptyVerb size begins offset → CommandEmpty size text offset

-- the patterns of a verb
abbrev pub written_patterns : WrittenVerb → List Pattern
written_patterns (Known verb) = verb_patterns verb
written_patterns (JumpTo tests label braced) = []
written_patterns Opening = []

abbrev pub patterns_of : Item → List Pattern
patterns_of (Written given negated verb) = address_patterns given ++ written_patterns verb
patterns_of Closing = []

-- the patterns of the items, those of addresses too
abbrev pub item_patterns : List Item → List Pattern
item_patterns items = flat_map patterns_of items

-- at the offset ends the first empty expression of the items: that of the first item that has one
abbrev pub EmptyOf : List ℕ → List WrittenItem → ℕ → Type 0
EmptyOf text items offset = (front more : List WrittenItem) × (c : WrittenCommand) × (items ≡ front ++ item.Command c ∷ more)
    × (has_previous (item_patterns (map item_of front)) ≡ false) × CommandEmpty (length text) (drop c.location.start text) offset

-- These items of the text have been read: its commands, with their places in it, and the closings of its blocks.
pub record IsRead (text : List ℕ) (progress : Progress) : Type 0 where
  pub spelled : Items text (map item_of progress.items.items)
  pub located : locations_in progress.items.items ≡ locations_of (length text) spelled
  pub nests : Nests (map item_of progress.items.items) 0
  pub labels : HasLabels progress.labels (commands_among (map item_of progress.items.items))
  pub count : progress.count ≡ length (commands_among (map item_of progress.items.items))
  pub few : progress.count ≤ 4095
  pub label_places : All (IsItemAt text) progress.items.items
  pub empty : IsFirstEmpty (item_patterns (map item_of progress.items.items)) (EmptyOf text progress.items.items) progress.empty
