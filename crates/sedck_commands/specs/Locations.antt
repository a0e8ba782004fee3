-- Where the commands of a script are in its text (ours). A location is three offsets, counted in bytes from 0, of the very
-- cuts that the grammar makes: nothing here reads a text.
use Rattle.std.specs.Prelude.{ℕ, ◌-◌, ◌<◌, ◌≤◌, Bool, List, [], ◌∷◌, length}
use Rattle.sedck_commands.specs.Program.{Address}
use Rattle.sedck_commands.specs.Items.{WrittenVerb, CommandText, Item, Items, nothing, comment, closing, command}
use Rattle.sedck_commands.specs.declared.location.Location.{Location}

-- Where a command is in a text of this size that ends with it and what follows it: it starts with its addresses, or else
-- with a `!` or its verb; then come the byte of its verb, and the end, where the rest begins.
abbrev pub location_of : {text rest : List ℕ} {address : Address} {negated : Bool} {verb : WrittenVerb}
    → ℕ → CommandText text address negated verb rest → Location
location_of {text = text} {rest = rest} size here =
    record { start = size - length text; verb = size - length here.begins; end = size - length rest }

-- The locations of the commands among the items of a text, in order. The size is that of the whole text, which this one ends.
abbrev pub locations_of : {text : List ℕ} {items : List Item} → ℕ → Items text items → List Location
locations_of size (nothing run) = []
locations_of size (comment run is_hash line no_return more) = locations_of size more
locations_of size (closing run is_brace ends more) = locations_of size more
locations_of size (command run here more) = location_of size here ∷ locations_of size more

-- From this offset on, each command starts where the one before it has ended or later, its verb isn't before its start, it
-- ends after its verb's byte, and all of them end within the size.
abbrev pub AreInOrder : ℕ → ℕ → List Location → Type 0
AreInOrder from size [] = from ≤ size
AreInOrder from size (location ∷ more) =
    (from ≤ location.start) × (location.start ≤ location.verb) × (location.verb < location.end) × AreInOrder location.end size more
