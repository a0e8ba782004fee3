-- What the readers of items say of where commands are.
use Rattle.std.specs.Prelude.{◌≡◌, ℕ, List}
use Rattle.sedck_commands.specs.Items.{CommandText}
use Rattle.sedck_commands.specs.Locations.{location_of}
use Rattle.sedck_commands.specs.View.{address_of}
use Rattle.sedck_commands.specs.ItemView.{written_verb}
use Rattle.sedck_commands.specs.declared.items.WrittenCommand.{WrittenCommand}

-- the text, which ends one of this size, begins with the command, at its location
abbrev pub IsLocated : ℕ → List ℕ → WrittenCommand → List ℕ → Type 0
IsLocated size text c rest = (command : CommandText text (address_of c.address) c.negated (written_verb c.verb) rest) × (c.location ≡ location_of size command)
