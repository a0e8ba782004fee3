-- The tree of each form that has parts.
use Rattle.sedck_expressions.proofs.Common.{◌≡◌, ℕ, map, Option, sym, ap, ◌∙◌, Tree, trees, tree, ByteSet, Bre, Vec, Box, Global, node_tree, Bre-F, fold-roll-Bre, rolls-Byte, rolls-Any, rolls-Set, rolls-Ref, rolls-Group, rolls-Seq, rolls-Repeat}
use Rattle.sedck_expressions.specs.View.{bytes_in}
use Rattle.sedck_expressions.specs.Tree as spec
use Rattle.sedck_expressions.specs.declared.tree.Bre.TheVariants.{Byte, Any, Set, Ref, Group, Seq, Repeat}

pub tree-Any : tree Any ≡ spec.Any
tree-Any = ap tree (sym rolls-Any) ∙ fold-roll-Bre Tree node_tree Bre-F.Any

pub tree-Group : (k : ℕ) (body : Box Bre Global) → tree (Group k body) ≡ spec.Group k (tree body.value)
tree-Group k body = ap tree (sym (rolls-Group k body)) ∙ fold-roll-Bre Tree node_tree (Bre-F.Group k body)

pub tree-Byte : (b : ℕ) → tree (Byte b) ≡ spec.Byte b
tree-Byte b = ap tree (sym (rolls-Byte b)) ∙ fold-roll-Bre Tree node_tree (Bre-F.Byte b)

pub tree-Set : (set : ByteSet) → tree (Set set) ≡ spec.Set (bytes_in set.0)
tree-Set set = ap tree (sym (rolls-Set set)) ∙ fold-roll-Bre Tree node_tree (Bre-F.Set set)

pub tree-Ref : (k : ℕ) → tree (Ref k) ≡ spec.Ref k
tree-Ref k = ap tree (sym (rolls-Ref k)) ∙ fold-roll-Bre Tree node_tree (Bre-F.Ref k)

pub tree-Seq : (items : Vec Bre Global) → tree (Seq items) ≡ spec.Seq (trees (map tree items.items))
tree-Seq items = ap tree (sym (rolls-Seq items)) ∙ fold-roll-Bre Tree node_tree (Bre-F.Seq items)

pub tree-Repeat : (body : Box Bre Global) (least : ℕ) (most : Option ℕ) → tree (Repeat body least most) ≡ spec.Repeat (tree body.value) least most
tree-Repeat body least most = ap tree (sym (rolls-Repeat body least most)) ∙ fold-roll-Bre Tree node_tree (Bre-F.Repeat body least most)
