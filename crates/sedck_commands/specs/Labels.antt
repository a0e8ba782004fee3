-- The labels of items, and the places of the commands that define them.
use Rattle.std.specs.Prelude.{◌≡◌, ℕ, false, List, [], ◌∷◌, Option, Some, slice_get}
use Rattle.std.specs.Str.{bytes_eq}
use Rattle.std.specs.Borrow.{Bor}
use Rattle.std.specs.HashMap.{HashMap, get_by}
use Rattle.sedck_commands.specs.Program.{NoAddress, Label}
use Rattle.sedck_commands.specs.Items.{Known, Item, Written, Closing}

-- the commands among the items
abbrev pub commands_among : List Item → List Item
commands_among [] = []
commands_among (Written a n v ∷ items) = Written a n v ∷ commands_among items
commands_among (Closing ∷ items) = commands_among items

-- the place that a map has for a label
abbrev pub label_place : {S : Type 0} → HashMap (Bor (List ℕ)) ℕ S → List ℕ → Option ℕ
label_place labels name = get_by (λ k. bytes_eq name k.now) labels

-- the item at this place is the label's command
abbrev pub IsLabelOf : List Item → List ℕ → ℕ → Type 0
IsLabelOf items name place = slice_get items place ≡ Some (Written NoAddress false (Known (Label name)))

-- no label is twice among the items
abbrev pub AreLabelsOnce : List Item → Type 0
AreLabelsOnce items = (name : List ℕ) (i j : ℕ) → IsLabelOf items name i → IsLabelOf items name j → i ≡ j

-- the map has the labels of the items, each at its place
pub record HasLabels {S : Type 0} (labels : HashMap (Bor (List ℕ)) ℕ S) (items : List Item) : Type 0 where
  pub at : (name : List ℕ) (i : ℕ) → label_place labels name ≡ Some i → IsLabelOf items name i
  pub found : (name : List ℕ) (i : ℕ) → IsLabelOf items name i → label_place labels name ≡ Some i
