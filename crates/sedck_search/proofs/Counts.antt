-- What the counts of two nodes say of the paths between them.
use Rattle.sedck_search.proofs.Common.{◌≡◌, ◌≢◌, ◌⊎◌, ℕ, ◌<◌, ◌≤◌, true, List, length, refl, sym, ◌∙◌, subst, inl, inr, arith, Some, slice_get, set, cases_eq, length-set, slice_get_within, same_Some, Program, node_index, Node, IsNodeSet, IsClosed, Reaches, IsIn, IsReachCount, HasCount, HasNoCount, ArePartlyCounted, IsReachOf, IsKeptFor, AreKept, AreCounts, bit_count, IsReachable, EdgeFilter, node_same, node_at, All-contains, IsUncounted}
use Rattle.sedck_search.specs.Private.NodeSet.{has}
use Rattle.sedck_search.proofs.NodeSets.{fewer_or_same, same_nodes, counts_node, count_within}
use Rattle.sedck_search.proofs.Scans.{set_same, set_other}
use Rattle.sedck_search.proofs.Paths.{reaches_self, reaches-trans, closed_reaches}

-- sets are compared node by node
pub nodes_within : (a b : List ℕ) → ((m : Node) → IsIn a m → IsIn b m) → (i : ℕ) → has a i ≡ true → has b i ≡ true
nodes_within a b h i x = let n = node_at i in subst (λ k. has b k ≡ true) n.1 (h n.0 (subst (λ k. has a k ≡ true) (sym n.1) x))

module _ (p : Program) (filter : EdgeFilter) where
  reach_within : (n m : Node) {a b : ℕ} (x : IsReachCount p filter n a) (y : IsReachCount p filter m b) → Reaches p filter n m → (i : ℕ)
      → has y.members i ≡ true → has x.members i ≡ true
  reach_within n m x y r = nodes_within y.members x.members (λ k h. (x.reach.same k).1 (reaches-trans p filter n m k r ((y.reach.same k).0 h)))

  -- a node reaches at least as many as each that it reaches
  pub count_falls : (n m : Node) (a b : ℕ) → IsReachCount p filter n a → IsReachCount p filter m b → Reaches p filter n m → b ≤ a
  count_falls n m a b x y r =
      omega (arith, fewer_or_same y.members x.members y.reach.is_set x.reach.is_set (reach_within n m x y r), x.counts, y.counts)

  -- where it reaches as many, it is reached from there
  pub same_count : (n m : Node) (a b : ℕ) → IsReachCount p filter n a → IsReachCount p filter m b → Reaches p filter n m → a ≡ b → Reaches p filter m n
  same_count n m a b x y r same =
      (y.reach.same n).0 (same_nodes y.members x.members y.reach.is_set x.reach.is_set (reach_within n m x y r) (y.counts ∙ sym same ∙ sym x.counts)
      (node_index n) ((x.reach.same n).1 (reaches_self p filter n)))

  -- ---- Sets that no followed edge leaves

  -- a closed set with a node has all that it reaches; with as many nodes as it counts it has no other
  pub closed_reached : (set : List ℕ) → IsNodeSet set → IsClosed p filter set → (n m : Node) → Reaches p filter n m → IsIn set m
      → IsReachCount p filter m (bit_count set) → (k : Node) → IsIn set k → Reaches p filter n k
  closed_reached set is_set closed n m r has_m x k has_k =
      let within : (i : ℕ) → has x.members i ≡ true → has set i ≡ true =
      nodes_within x.members set (λ j h. let to : Reaches p filter m j = (x.reach.same j).0 h in
      closed_reaches p filter set closed to.0 m j to.1 to.2 has_m) in
      reaches-trans p filter n m k r ((x.reach.same k).0
      (same_nodes x.members set x.reach.is_set is_set within x.counts (node_index k) has_k))

  -- a closed set with the node, of nodes that it reaches, is all that it reaches
  pub closed_reach : (set : List ℕ) → IsNodeSet set → IsClosed p filter set → (n : Node) → IsIn set n → ((m : Node) → IsIn set m → Reaches p filter n m)
      → IsReachOf p filter n set
  closed_reach set is_set closed n has_n reached =
      record { is_set = is_set; same = λ m. (reached m, λ to. closed_reaches p filter set closed to.0 n m to.1 to.2 has_n) }

  pub reach_count : (n : Node) (set : List ℕ) → IsReachOf p filter n set → IsReachCount p filter n (bit_count set)
  reach_count n set reach = record { members = set; reach = reach; counts = refl }

  -- ---- Nodes that are counted

  -- a number that is no mark is the count
  pub counted_is : (counts : List ℕ) → ArePartlyCounted p filter counts → (n : Node) → n.at ≤ length p.commands → (count : ℕ)
      → slice_get counts (node_index n) ≡ Some count → 0 < count → count ≢ 65535 → IsReachCount p filter n count
  counted_is counts partly n inside count is positive other =
      elim (partly.each n inside) [
        | inl (reached, inl counted) ↦ subst (IsReachCount p filter n) (same_Some _ _ (sym counted.at ∙ is)) counted.is_count
        | inl (reached, inr marked) ↦ grind arith
        | inr none ↦ grind arith
      ]

  pub counted_at : (counts : List ℕ) → ArePartlyCounted p filter counts → (n : Node) → n.at ≤ length p.commands → (count : ℕ)
      → slice_get counts (node_index n) ≡ Some count → 0 < count → count < 65535 → IsReachCount p filter n count
  counted_at counts partly n inside count is positive within =
      counted_is counts partly n inside count is positive (λ same. absurd (omega (arith, within, same)))

  -- one node more is counted
  pub counted_set : (counts : List ℕ) → ArePartlyCounted p filter counts → (n : Node) → n.at ≤ length p.commands → (count : ℕ)
      → IsReachCount p filter n count → 0 < count → count ≤ 16384 → slice_get counts (node_index n) ≡ Some 65535
      → ArePartlyCounted p filter (set counts (node_index n) count)
  counted_set counts partly n inside count is_count positive within marked = record {
    long = length-set counts (node_index n) count ∙ partly.long;
    each = λ m m_inside. elim (cases_eq (node_index m) (node_index n)) [
      | inl same ↦ subst
          (λ k. (IsReachable p k × (HasCount p filter (set counts (node_index n) count) k ⊎ IsUncounted (set counts (node_index n) count) k))
          ⊎ HasNoCount p (set counts (node_index n) count) k) (sym (node_same m n same)) (inl (
            reachable (partly.each n inside),
            inl record {
              count = count;
              at = set_same counts (node_index n) count (slice_get_within counts (node_index n) 65535 marked);
              positive = positive;
              within = within;
              is_count = is_count;
            },
          ))
      | inr other ↦ as_before m (set_other counts (node_index n) (node_index m) count other) (partly.each m m_inside)
    ];
  }
    where
      reachable : (IsReachable p n × (HasCount p filter counts n ⊎ IsUncounted counts n)) ⊎ HasNoCount p counts n → IsReachable p n
      reachable h = grind arith

      as_before : (m : Node) → slice_get (set counts (node_index n) count) (node_index m) ≡ slice_get counts (node_index m)
          → (IsReachable p m × (HasCount p filter counts m ⊎ IsUncounted counts m)) ⊎ HasNoCount p counts m
          → (IsReachable p m × (HasCount p filter (set counts (node_index n) count) m ⊎ IsUncounted (set counts (node_index n) count) m))
          ⊎ HasNoCount p (set counts (node_index n) count) m
      as_before m same (inl (is, inl h)) =
          inl (is, inl record { count = h.count; at = same ∙ h.at; positive = h.positive; within = h.within; is_count = h.is_count })
      as_before m same (inl (is, inr h)) = inl (is, inr (same ∙ h))
      as_before m same (inr (none, h)) = inr (none, same ∙ h)

  -- ---- Kept sets

  pub partly_counts : (counts : List ℕ) → ArePartlyCounted p filter counts → AreCounts p filter counts
  partly_counts counts partly = counted_at counts partly

  -- a node reaches all nodes of the set that is kept for it
  pub kept_reached : (sets : List (List ℕ)) (counts set : List ℕ) (n : Node) → AreKept p filter sets → AreCounts p filter counts
      → n.at ≤ length p.commands → IsNodeSet set → IsKeptFor sets counts (node_index n) set
      → IsClosed p filter set × ((m : Node) → IsIn set m → Reaches p filter n m)
  kept_reached sets counts set n kept are inside is_set k =
      let closed : IsClosed p filter set = All-contains (λ s. IsClosed p filter s) sets set kept k.member in (
        closed,
        closed_reached set is_set closed n n (reaches_self p filter n) k.has_node
            (are n inside (bit_count set) k.count (counts_node set is_set (node_index n) k.has_node)
            (omega (arith, count_within set is_set))),
      )
