-- What a user sees of the items that were read: no pointers, no offsets.
use Rattle.std.specs.Prelude.{List, [], ◌∷◌, is_some, option_copied}
use Rattle.sedck_commands.specs.Program.{Label}
use Rattle.sedck_commands.specs.Items.{WrittenVerb, Known, JumpTo, Opening, Item, Written, Closing}
use Rattle.sedck_commands.specs.View.{address_of, verb_of}
use Rattle.sedck_commands.specs.declared.location.Location.{Location}
use Rattle.sedck_commands.specs.declared.items.Written.{Written as WrittenCode}
use Rattle.sedck_commands.specs.declared.items.Written.TheVariants as code
use Rattle.sedck_commands.specs.declared.items.WrittenItem.{WrittenItem}
use Rattle.sedck_commands.specs.declared.items.WrittenItem.TheVariants as item

-- a verb as it is written, without the offset of its label
abbrev pub written_verb : WrittenCode → WrittenVerb
written_verb (code.Known verb) = Known (verb_of verb)
written_verb (code.Label name) = Known (Label name.now)
written_verb (code.JumpTo jump) = JumpTo jump.tests (option_copied jump.label) (is_some jump.brace)
written_verb code.Opening = Opening

abbrev pub item_of : WrittenItem → Item
item_of (item.Command c) = Written (address_of c.address) c.negated (written_verb c.verb)
item_of item.Closing = Closing

-- where the commands among the items are
abbrev pub locations_in : List WrittenItem → List Location
locations_in [] = []
locations_in (item.Command c ∷ items) = c.location ∷ locations_in items
locations_in (item.Closing ∷ items) = locations_in items
