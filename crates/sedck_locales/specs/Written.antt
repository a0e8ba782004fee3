-- Expressions, and the program of a script, with their bracket lists as they are written.
use Rattle.std.specs.Prelude.{◌≡◌, ℕ, Bool, List, [], ◌∷◌, ◌++◌}
use Rattle.sedck_commands.specs.Program.{Pattern, Previous, Expression, Place, Line, Last, Context, Address, NoAddress, One, Two, Verb, Substitute, Command, Program}
use Rattle.sedck_commands.specs.Parts as parts
use Rattle.sedck_commands.specs.Parts.{IsPatternIn, PlaceText, line, last, context, custom, AddressText, none, one, two}
use Rattle.sedck_commands.specs.Items.{WrittenVerb, VerbText, substitute, CommandText, Item, Items, nothing, comment, closing, command}
use Rattle.sedck_commands.specs.ReadAlike.{read_alike}
use Rattle.sedck_script.specs.Spelling.{Spells}
use Rattle.sedck_expressions.specs.Tree.{Tree, Trees, Byte, Any, Set, Start, End, Maybe, Group, Ref, Seq, Repeat, Nil, Then}
use Rattle.sedck_expressions.specs.Shape.{Level, Inside, Whole, Position, First, behind, SpellsItem, SpellsItems, SpellsList, Shape}

abbrev mutual
  -- the tree of an item, in which each set is the text of its list, in place of its bytes
  pub written_item : (t : Tree) (level : Level) (position : Position) (text rest : List ℕ) → SpellsItem level position text rest t → Tree
  written_item (Byte c) level position text rest here = Byte c
  written_item Any level position text rest here = Any
  written_item (Set bytes) level position text rest here = Set text
  written_item Start level position text rest here = Start
  written_item End level position text rest here = End
  written_item (Maybe c) level position text rest here = Maybe c
  written_item (Group k body) level position text rest here = Group k (written_list body Inside here.0 here.2)
  written_item (Ref k) level position text rest here = Ref k
  written_item (Seq ts) level position text rest here = absurd here
  written_item (Repeat body least most) level position text rest here =
      Repeat (written_item body level position here.0 (here.1 ++ rest) here.4) least most

  pub written_items : (ts : Trees) (level : Level) (position : Position) (text : List ℕ) → SpellsItems level position text ts → Trees
  written_items Nil level position text here = Nil
  written_items (Then t ts) level position text here =
      Then (written_item t level position here.0 here.1 here.3) (written_items ts level (behind position t) here.1 here.4)

  pub written_list : (t : Tree) (level : Level) (text : List ℕ) → SpellsList level text t → Tree
  written_list (Seq ts) level text here = Seq (written_items ts level First text here)
  written_list _ level text here = absurd here

-- the tree of an expression
abbrev pub written : (text : List ℕ) (t : Tree) → Shape text t → Tree
written text t shape = written_list t Whole text shape.0

abbrev mutual
  -- the texts of the lists, one after another
  pub lists_in : Tree → List ℕ
  lists_in (Set text) = text
  lists_in (Group k body) = lists_in body
  lists_in (Seq ts) = lists_in_all ts
  lists_in (Repeat body least most) = lists_in body
  lists_in _ = []

  pub lists_in_all : Trees → List ℕ
  lists_in_all Nil = []
  lists_in_all (Then t ts) = lists_in t ++ lists_in_all ts

-- The texts of the expressions of an address and of a command, in order, as the grammar cuts them out.
abbrev pub place_expressions : {text rest : List ℕ} {place : Place} → PlaceText text place rest → List (List ℕ)
place_expressions (line number) = []
place_expressions (last is_dollar) = []
place_expressions (context {expression = expression} is_slash cut pattern) = expression ∷ []
place_expressions (custom {expression = expression} is_backslash delimiter cut pattern) = expression ∷ []

abbrev pub address_expressions : {text rest : List ℕ} {address : Address} → AddressText text address rest → List (List ℕ)
address_expressions none = []
address_expressions (one first) = place_expressions first
address_expressions (two first before is_comma after second) = place_expressions first ++ place_expressions second

abbrev pub verb_expressions : {text rest : List ℕ} {verb : WrittenVerb} → VerbText text verb rest → List (List ℕ)
verb_expressions (substitute {expression = expression} is_s delimiter cut pattern replacement groups flags) = expression ∷ []
verb_expressions _ = []

abbrev pub command_expressions : {text rest : List ℕ} {address : Address} {negated : Bool} {verb : WrittenVerb}
    → CommandText text address negated verb rest → List (List ℕ)
command_expressions here = address_expressions here.addresses ++ verb_expressions here.verbs

-- ---- Programs

-- The parts of a command in which each set is the text of its list.
abbrev pub written_pattern : {text : List ℕ} {pattern : Pattern} → IsPatternIn read_alike text pattern → Pattern
written_pattern parts.previous = Previous
written_pattern (parts.expression {b = b} {bytes = bytes} {tree = tree} (spells, alike)) = Expression (written_list tree Whole (b ∷ bytes) spells.0)

abbrev pub written_place : {text rest : List ℕ} {place : Place} → PlaceText text place rest → Place
written_place (line {number = n} number) = Line n
written_place (last is_dollar) = Last
written_place (context is_slash cut pattern) = Context (written_pattern pattern)
written_place (custom is_backslash delimiter cut pattern) = Context (written_pattern pattern)

abbrev pub written_address : {text rest : List ℕ} {address : Address} → AddressText text address rest → Address
written_address none = NoAddress
written_address (one first) = One (written_place first)
written_address (two first before is_comma after second) = Two (written_place first) (written_place second)

abbrev pub written_verb : {text rest : List ℕ} {verb : WrittenVerb} → VerbText text verb rest → Verb → Verb
written_verb (substitute is_s delimiter cut pattern replacement groups flags) (Substitute s) = Substitute (record s { pattern = written_pattern pattern })
written_verb _ verb = verb

-- the commands of the items of a text, in which each set is the text of its list
abbrev pub written_commands : {text : List ℕ} {items : List Item} → Items text items → List Command → List Command
written_commands (nothing run) commands = []
written_commands (comment run is_hash rest_of_line no_return more) commands = written_commands more commands
written_commands (closing run is_brace ends more) commands = written_commands more commands
written_commands (command run here more) [] = []
written_commands (command run here more) (c ∷ commands) =
    record { address = written_address here.addresses; negated = c.negated; verb = written_verb here.verbs c.verb } ∷ written_commands more commands

-- The program that the text spells, in which each set is the text of its list, in place of the bytes that this has in the POSIX locale. So what it does in
-- a locale depends on no other thing of the text.
pub record IsWrittenAs (text : List ℕ) (written : Program) : Type 0 where
  pub program : Program
  pub spelled : Spells text program
  pub is : written ≡ record { commands = written_commands spelled.spelled program.commands; quiet = program.quiet }
