-- What is proved of the definitions alone.
use Rattle.std.specs.Prelude.{ℕ, ◌≤◌, List, [], length, IfSome}
use Rattle.sedck_commands.specs.Items.{Item, Items}
use Rattle.sedck_commands.specs.Labels.{AreLabelsOnce, commands_among}
use Rattle.sedck_commands.specs.Blocks.{Nests}
use Rattle.sedck_commands.specs.FirstFaults.{ItemsFault}
use Rattle.sedck_commands.specs.Faults.{IsPlaced}
use Rattle.sedck_commands.specs.FaultWords.{fault_place}
use Rattle.sedck_commands.specs.declared.fault.ScriptFault.{ScriptFault}

-- the place of a fault is one in the text, or its end
abbrev pub PlacesAreWithin : Type 0
PlacesAreWithin = (text : List ℕ) (fault : ScriptFault) → IsPlaced text fault → IfSome (fault_place fault) (λ place. place ≤ length text)

-- where a text has a first fault, no items spell it that are within the limits, define each label once and close each block
abbrev pub ItemFaultsRefuse : Type 0
ItemFaultsRefuse = (text : List ℕ) (fault : ScriptFault) → ItemsFault (length text) [] [] text fault → (items : List Item) → Items text items
    → length (commands_among items) ≤ 4095 → AreLabelsOnce (commands_among items) → Nests items 0 → ⊥
