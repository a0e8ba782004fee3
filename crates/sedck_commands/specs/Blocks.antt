-- Which items close each block that they open.
use Rattle.std.specs.Prelude.{◌≡◌, ℕ, suc, zero, ◌<◌, Bool, List, [], ◌∷◌}
use Rattle.sedck_commands.specs.Items.{WrittenVerb, Known, JumpTo, Opening, Item, Written, Closing}
use Rattle.sedck_commands.specs.ReadAlike.{MayBeBraced}

-- what an item does to the number of open blocks; a jump leaves it, and says whether a `}` is right after its label
pub data Turn : Type 0 where
  Opens : Turn
  Closes : Turn
  Stays : Turn
  Jumps : Bool → Turn

abbrev pub verb_turn : WrittenVerb → Turn
verb_turn (Known v) = Stays
verb_turn (JumpTo tests label braced) = Jumps braced
verb_turn Opening = Opens

abbrev pub turn_of : Item → Turn
turn_of (Written a n v) = verb_turn v
turn_of Closing = Closes

-- what follows is right for the number of blocks that are open after the turn, of which there are at most 64, and at most one
-- where a `}` is right after a label
abbrev pub Turned : Turn → (ℕ → Type 0) → ℕ → Type 0
Turned Opens P depth = (depth < 64) × P (suc depth)
Turned Closes P zero = ⊥
Turned Closes P (suc depth) = P depth
Turned Stays P depth = P depth
Turned (Jumps braced) P depth = MayBeBraced braced depth × P depth

-- where this many blocks are open, the items close each block, and open none too deep
abbrev pub Nests : List Item → ℕ → Type 0
Nests [] depth = depth ≡ 0
Nests (item ∷ items) depth = Turned (turn_of item) (Nests items) depth
