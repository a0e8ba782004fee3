-- How far the items of a script have been read.
use Rattle.std.specs.Prelude.{◌≡◌, ℕ, ◌≤◌, if◌then◌else◌, List, [], ◌++◌, length, map, All, Some}
use Rattle.std.specs.Str.{bytes_eq}
use Rattle.std.specs.Borrow.{Bor}
use Rattle.std.specs.HashMap.{HashMap}
use Rattle.sedck_commands.specs.Items.{Item, Items}
use Rattle.sedck_commands.specs.FirstFaults.{ItemsFault}
use Rattle.sedck_commands.specs.declared.fault.ScriptFault.{ScriptFault}
use Rattle.sedck_commands.specs.Labels.{HasLabels, label_place, commands_among}
use Rattle.sedck_commands.specs.Blocks.{Nests}
use Rattle.sedck_commands.specs.ItemView.{item_of, locations_in}
use Rattle.sedck_commands.specs.Locations.{locations_of}
use Rattle.sedck_commands.specs.declared.location.Location.{Location}
use Rattle.sedck_commands.specs.ReadItems.{IsItemAt, IsFirstEmpty, EmptyOf, item_patterns}
use Rattle.sedck_commands.specs.declared.items.Progress.{Progress}
use Rattle.sedck_commands.specs.declared.items.Written.{Written as WrittenCode}
use Rattle.sedck_commands.specs.declared.items.Written.TheVariants as code

-- These items have been read, with their commands at these locations, this many blocks are open, and rest is left.
pub record IsFront (text : List ℕ) (items : List Item) (locations : List Location) (depth : ℕ) (rest : List ℕ) : Type 0 where
  pub sound : (more : List Item) (left : Items rest more)
      → (all : Items text (items ++ more)) × (locations_of (length text) all ≡ locations ++ locations_of (length text) left)
  pub nests : (more : List Item) → Nests more depth → Nests (items ++ more) 0

-- what has been read of a text, where rest is left
pub record IsProgress (text rest : List ℕ) (progress : Progress) : Type 0 where
  pub front : IsFront text (map item_of progress.items.items) (locations_in progress.items.items) (length progress.open_blocks.items) rest
  pub labels : HasLabels progress.labels (commands_among (map item_of progress.items.items))
  pub count : progress.count ≡ length (commands_among (map item_of progress.items.items))
  pub few : progress.count ≤ 4095
  pub label_places : All (IsItemAt text) progress.items.items
  pub empty : IsFirstEmpty (item_patterns (map item_of progress.items.items)) (EmptyOf text progress.items.items) progress.empty
  pub faults : (fault : ScriptFault) → ItemsFault (length text) (map item_of progress.items.items) progress.open_blocks.items rest fault
      → ItemsFault (length text) [] [] text fault

-- ---- One more command

-- new has what old has, and at this place the label that the verb defines
abbrev pub NotesLabel : {S : Type 0} → HashMap (Bor (List ℕ)) ℕ S → HashMap (Bor (List ℕ)) ℕ S → ℕ → WrittenCode → Type 0
NotesLabel old new place (code.Label name) = (q : List ℕ) → label_place new q ≡ (if bytes_eq name.now q then Some place else label_place old q)
NotesLabel old new place (code.Known verb) = (q : List ℕ) → label_place new q ≡ label_place old q
NotesLabel old new place (code.JumpTo jump) = (q : List ℕ) → label_place new q ≡ label_place old q
NotesLabel old new place code.Opening = (q : List ℕ) → label_place new q ≡ label_place old q
