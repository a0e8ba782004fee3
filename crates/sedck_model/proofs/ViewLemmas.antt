-- The tree of each form that has no parts.
use Rattle.sedck_model.proofs.Common.{◌≡◌, ℕ, ◌<◌, List, sym, ap, ◌∙◌, Tree, is_in, tree}
use Rattle.sedck_expressions.proofs.BracketSets.{in_where}
use Rattle.sedck_expressions.specs.View.{node_tree, has_bit, bytes_in}
use Rattle.sedck_expressions.specs.Tree as spec
use Rattle.sedck_expressions.specs.declared.tree.ByteSet.{ByteSet}
use Rattle.sedck_expressions.specs.declared.tree.Bre.{Bre-F, fold-roll-Bre}
use Rattle.sedck_expressions.specs.declared.tree.Bre.TheVariants.{Byte, Set, Maybe, Ref, rolls-Byte, rolls-Set, rolls-Maybe, rolls-Ref}

pub tree-Byte : (b : ℕ) → tree (Byte b) ≡ spec.Byte b
tree-Byte b = ap tree (sym (rolls-Byte b)) ∙ fold-roll-Bre Tree node_tree (Bre-F.Byte b)

pub tree-Set : (set : ByteSet) → tree (Set set) ≡ spec.Set (bytes_in set.0)
tree-Set set = ap tree (sym (rolls-Set set)) ∙ fold-roll-Bre Tree node_tree (Bre-F.Set set)

-- a byte is among those of a set exactly where its bit is set
pub has_byte : (words : List ℕ) (b : ℕ) → b < 256 → is_in b (bytes_in words) ≡ has_bit words b
unfolding bytes_in
has_byte words b small = in_where (has_bit words) b small

pub tree-Maybe : (b : ℕ) → tree (Maybe b) ≡ spec.Maybe b
tree-Maybe b = ap tree (sym (rolls-Maybe b)) ∙ fold-roll-Bre Tree node_tree (Bre-F.Maybe b)

pub tree-Ref : (k : ℕ) → tree (Ref k) ≡ spec.Ref k
tree-Ref k = ap tree (sym (rolls-Ref k)) ∙ fold-roll-Bre Tree node_tree (Bre-F.Ref k)
