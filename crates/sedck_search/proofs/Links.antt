-- Links of nodes in the depth-first search, and what members of a component count.
use Rattle.sedck_search.proofs.Common.{◌≡◌, ℕ, ◌<◌, ◌≤◌, List, length, sym, ap, ◌∙◌, subst, arith, Some, slice_get, set, Program, node_index, node_count, Node, node_same, bit_count, IsNodeSet, ArePartlyCounted, IsClosed, Reaches, IsMember, IsOrderOf, EdgeFilter, AreLinks, IsOrder}
use Rattle.sedck_search.specs.declared.order.Order.{Order}
use Rattle.sedck_search.proofs.NodeSets.{counts_node, count_within}
use Rattle.sedck_search.proofs.Scans.{set_same, set_other}
use Rattle.sedck_search.proofs.Counts.{counted_at, counted_set, closed_reached, closed_reach, reach_count}

module _ (p : Program) (filter : EdgeFilter) where
  -- one node is linked anew
  links_set : (links : List ℕ) → AreLinks p filter links → (n : Node) (to : ℕ) → node_index n < length links
      → ((m : Node) → node_index m ≡ to → Reaches p filter n m) → AreLinks p filter (set links (node_index n) to)
  links_set links old n to below reached k m is =
      grind (arith, set_same links (node_index n) to below, set_other links (node_index n) (node_index k) to, node_same k n, reached m, old k m)

  pub linked_order : (before after : Order) → IsOrderOf p filter before → (n : Node) (to index : ℕ) → node_index n ≡ index
      → index < node_count (length p.commands) → IsOrder after → length after.parents.items ≡ length before.parents.items
      → after.links.items ≡ set before.links.items index to → ((m : Node) → node_index m ≡ to → Reaches p filter n m) → IsOrderOf p filter after
  linked_order before after order n to index is below is_order long links reached = record {
    is_order = is_order;
    long = long ∙ order.long;
    links = subst (AreLinks p filter) (ap (λ i. set before.links.items i to) is ∙ sym links)
        (links_set before.links.items order.links n to (omega (arith, is, below, order.long, order.is_order.links_long)) reached);
  }

  -- a member reaches all nodes of the set, by the node that it links to
  pub member_counted : (counts : List ℕ) → ArePartlyCounted p filter counts → (s : List ℕ) → IsNodeSet s → IsClosed p filter s → (n m : Node)
      → n.at ≤ length p.commands → m.at ≤ length p.commands → Reaches p filter n m → IsMember s counts (node_index n) (node_index m)
      → slice_get counts (node_index n) ≡ Some 65535 → ArePartlyCounted p filter (set counts (node_index n) (bit_count s))
  member_counted counts partly s is_set closed n m n_inside m_inside r member marked =
      let positive = counts_node s is_set (node_index n) member.has_node in
      let within = count_within s is_set in
      let is_count = counted_at p filter counts partly m m_inside (bit_count s) member.count
      (counts_node s is_set (node_index m) member.has_link) (omega (arith, within)) in
      counted_set p filter counts partly n n_inside (bit_count s) (reach_count p filter n s (closed_reach p filter s is_set closed n member.has_node
      (closed_reached p filter s is_set closed n m r member.has_link is_count))) positive within marked
