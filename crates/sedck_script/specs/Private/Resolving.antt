-- What the resolver of labels says of items.
use Rattle.std.specs.Prelude.{◌≡◌, ℕ, ◌+◌, ◌<◌, length, drop, get_or, slice_get, All, if◌then◌else◌, List, [], ◌∷◌, ◌++◌, Option, Some, None, unwrap_or}
use Rattle.std.specs.Borrow.{Bor}
use Rattle.std.specs.HashMap.{HashMap}
use Rattle.sedck_commands.specs.Program.{Verb, Branch, Test, Block, Command}
use Rattle.sedck_commands.specs.Items.{WrittenVerb, Known, JumpTo, Opening, Item, Written, Closing}
use Rattle.sedck_commands.specs.View.{address_of}
use Rattle.sedck_commands.specs.Labels.{label_place}
use Rattle.sedck_commands.specs.FirstFaults.{LabelBeginsAt}
use Rattle.sedck_commands.specs.Blocks.{Turn, Opens, Closes, Stays, Jumps}
use Rattle.sedck_commands.specs.ItemView.{written_verb, item_of}
use Rattle.sedck_commands.specs.ReadItems.{IsItemAt}
use Rattle.sedck_commands.specs.declared.fault.ScriptFault.{ScriptFault}
use Rattle.sedck_commands.specs.declared.fault.ScriptFault.TheVariants.{UnknownLabel}
use Rattle.sedck_commands.specs.declared.items.WrittenCommand.{WrittenCommand}
use Rattle.sedck_commands.specs.declared.items.WrittenItem.{WrittenItem}
use Rattle.sedck_commands.specs.declared.items.WrittenItem.TheVariants as item

-- a label is one that the map has, or there is none
abbrev pub IsKnownLabel : {S : Type 0} → HashMap (Bor (List ℕ)) ℕ S → Option (List ℕ) → Type 0
IsKnownLabel labels None = Unit {0}
IsKnownLabel labels (Some name) = (i : ℕ) × (label_place labels name ≡ Some i)

-- the label to which a verb leads, if it leads to one
abbrev pub label_of : WrittenVerb → Option (List ℕ)
label_of (JumpTo tests label braced) = label
label_of (Known v) = None
label_of Opening = None

abbrev pub item_label : Item → Option (List ℕ)
item_label (Written a n v) = label_of v
item_label Closing = None

-- the place to which a label leads
abbrev pub target_of : {S : Type 0} → HashMap (Bor (List ℕ)) ℕ S → ℕ → Option (List ℕ) → ℕ
target_of labels end None = end
target_of labels end (Some name) = unwrap_or (label_place labels name) end

-- the verb with its target, where a block leads to this place
abbrev pub resolved_verb : {S : Type 0} → HashMap (Bor (List ℕ)) ℕ S → ℕ → ℕ → WrittenVerb → Verb
resolved_verb labels end block (Known v) = v
resolved_verb labels end block (JumpTo tests label braced) = if tests then Test (target_of labels end label) else Branch (target_of labels end label)
resolved_verb labels end block Opening = Block block

-- the command with its target
abbrev pub resolved_command : {S : Type 0} → HashMap (Bor (List ℕ)) ℕ S → ℕ → ℕ → WrittenCommand → Command
resolved_command labels end block c = record { address = address_of c.address; negated = c.negated; verb = resolved_verb labels end block (written_verb c.verb) }

-- where the command opens a block, its target is taken from the end of the list, and else nothing is taken
abbrev pub TakesTarget : Turn → List ℕ → List ℕ → ℕ → Type 0
TakesTarget Opens old new target = (old ≡ [] → ⊥) → old ≡ new ++ target ∷ []
TakesTarget Closes old new target = new ≡ old
TakesTarget Stays old new target = new ≡ old
TakesTarget (Jumps braced) old new target = new ≡ old

-- the first of the items whose label the map lacks is this command at this place, and the fault at its label
pub record IsFirstLost {S : Type 0} (labels : HashMap (Bor (List ℕ)) ℕ S) (items : List WrittenItem) (fault : ScriptFault) : Type 0 where
  pub place : ℕ
  pub command : WrittenCommand
  pub here : slice_get items place ≡ Some (item.Command command)
  pub before : (k : ℕ) (d : WrittenItem) → k < place → IsKnownLabel labels (item_label (item_of (get_or items k d)))
  pub name : List ℕ
  pub label : item_label (item_of (item.Command command)) ≡ Some name
  pub lost : label_place labels name ≡ None
  pub at : (text : List ℕ) → All (IsItemAt text) items
      → (offset : ℕ) × (fault ≡ UnknownLabel offset) × LabelBeginsAt (length text) (drop (command.location.verb + 1) text) name offset
