-- The tree that a value of the code's type stands for, without where its parts lie in memory.
use Rattle.std.specs.Prelude.{ℕ, ◌/◌, ◌%◌, ◌==◌, Bool, List, slice_index}
use Rattle.std.specs.Int.{bit_at}
use Rattle.sedck_expressions.specs.Tree.{Tree, Byte, Any, Set, Start, End, Maybe, Group, Ref, Seq, Repeat, trees, bytes_where}
use Rattle.sedck_expressions.specs.declared.tree.Bre.{Bre}
use Rattle.sedck_expressions.specs.declared.tree.Bre.TheOpen.{Bre-F}
use Rattle.sedck_expressions.specs.declared.tree.Bre.TheFolds.{fold-Bre}

-- the bytes of a set of four words: byte b is bit b mod 64 of word b / 64
abbrev pub has_bit : List ℕ → ℕ → Bool
has_bit words b = bit_at (slice_index words (b / 64)) (b % 64) == 1

unfoldable pub bytes_in : List ℕ → List ℕ
bytes_in words = bytes_where (has_bit words)

-- one node, with the tree of each child in its place
abbrev pub node_tree : Bre-F Tree → Tree
node_tree (Bre-F.Byte b) = Byte b
node_tree Bre-F.Any = Any
node_tree (Bre-F.Set set) = Set (bytes_in set.0)
node_tree Bre-F.Start = Start
node_tree Bre-F.End = End
node_tree (Bre-F.Maybe b) = Maybe b
node_tree (Bre-F.Group k body) = Group k body.value
node_tree (Bre-F.Ref k) = Ref k
node_tree (Bre-F.Seq items) = Seq (trees items.items)
node_tree (Bre-F.Repeat body least most) = Repeat body.value least most

abbrev pub tree : Bre → Tree
tree = fold-Bre Tree node_tree
