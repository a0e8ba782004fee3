-- How sets of reached nodes grow.
use Rattle.sedck_search.proofs.Common.{◌≡◌, ◌⊎◌, ℕ, ◌+◌, ◌-◌, ◌*◌, ◌<◌, ◌≤◌, true, false, List, refl, sym, ap, subst, inl, inr, arith, cases_eq, Program, node_index, Node, Edge, bit_count, IsNodeSet, HasChanged, IsEmpty, IsUnion, IsIn, IsClosed, Reaches, FollowedEdge, AddsNode, AddsReached, AddsTargets, AreSearchSets, EdgeFilter, node_same, node_at}
use Rattle.sedck_search.specs.Private.NodeSet.{has}
use Rattle.sedck_search.proofs.NodeSets.{inserted_count, removed_count, count_within, fewer_or_same, not_both}
use Rattle.sedck_search.proofs.Paths.{reaches_self, reaches-trans}

-- ---- Nodes put into a set

-- the nodes that were in a row stay in it
pub changed_keeps : (a b : List ℕ) (n : Node) → HasChanged a b (node_index n) true → (m : Node) → IsIn a m → IsIn b m
changed_keeps a b n h m x = grind (arith, h.others (node_index m))

-- and no other node than this one is new
pub changed_new : (a b : List ℕ) (n : Node) → HasChanged a b (node_index n) true → (m : Node) → IsIn b m → IsIn a m ⊎ (m ≡ n)
changed_new a b n h m x = grind (arith, h.others (node_index m), node_same m n)

-- what is in a row without the node was in the set
pub removed_was : (a b : List ℕ) (m : Node) → HasChanged a b (node_index m) false → (k : Node) → IsIn b k → IsIn a k
removed_was a b m removed k w = grind (arith, removed.others (node_index k))

module _ (n : Node) (members frontier members' frontier' : List ℕ) (sets : AreSearchSets members frontier) (is_set' : IsNodeSet members') (is_frontier' : IsNodeSet frontier')
    (absent : has members (node_index n) ≡ false) (r : HasChanged members members' (node_index n) true) (w : HasChanged frontier frontier' (node_index n) true) where
  -- a node that is not reached is not in the frontier
  idle : has frontier (node_index n) ≡ false
  idle = grind (arith, sets.among n)

  -- a node that wasn't there is added
  pub added_new : (first first' : ℕ) → first' ≤ first → first' ≤ node_index n → AddsNode n members frontier members' frontier' first first'
  added_new first first' less least = record {
    kept = changed_keeps members members' n r;
    waits_on = changed_keeps frontier frontier' n w;
    new = λ m h. elim (changed_new members members' n r m h) [ inl before ↦ inl before | inr same ↦ inr (subst (IsIn frontier') (sym same) w.at) ];
    waits = λ m h. elim (changed_new frontier frontier' n w m h) [
      | inl before ↦ inl before
      | inr same ↦ inr (same, subst (IsIn members') (sym same) r.at, omega (arith, least, ap node_index same))
    ];
    earlier = less;
    room = omega (
      arith,
      inserted_count members members' sets.is_set is_set' (node_index n) r absent,
      inserted_count frontier frontier' sets.is_frontier is_frontier' (node_index n) w idle,
    );
  }

  pub sets_new : AreSearchSets members' frontier'
  sets_new = record {
    is_set = is_set';
    is_frontier = is_frontier';
    among = λ m h. elim (changed_new frontier frontier' n w m h) [
      | inl before ↦ changed_keeps members members' n r m (sets.among m before)
      | inr same ↦ subst (IsIn members') (sym same) r.at
    ];
  }

-- the node was there
pub added_none : (n : Node) (members frontier : List ℕ) (first : ℕ) → AddsNode n members frontier members frontier first first
added_none n members frontier first = grind arith

-- ---- Targets of a node

module _ (p : Program) (filter : EdgeFilter) (from : Node) where
  pub targets_none : (members frontier : List ℕ) (first : ℕ) → AddsTargets p filter from members frontier members frontier first first
  targets_none members frontier first = grind arith

  -- what is added after one another
  pub targets_then : (a w a' w' a'' w'' : List ℕ) (f f' f'' : ℕ) → AddsTargets p filter from a w a' w' f f'
      → AddsTargets p filter from a' w' a'' w'' f' f'' → AddsTargets p filter from a w a'' w'' f f''
  targets_then a w a' w' a'' w'' f f' f'' h k = record {
    kept = λ n x. k.kept n (h.kept n x);
    waits_on = λ n x. k.waits_on n (h.waits_on n x);
    new = λ n x. elim (k.new n x) [
      | inl before ↦ elim (h.new n before) [
        | inl y ↦ inl y
        | inr (r, inl y) ↦ inr (r, inl (k.waits_on n y))
        | inr (r, inr leads) ↦ inr (r, inr (λ e followed same. k.kept e.to (leads e followed same)))
      ]
      | inr y ↦ inr y
    ];
    waits = λ n x. grind (arith, k.waits n x, h.waits n, k.earlier);
    earlier = omega (arith, h.earlier, k.earlier);
    room = omega (arith, h.room, k.room);
  }

  -- a target is added
  pub targets_node : (to : Node) → Reaches p filter from to → (a w a' w' : List ℕ) (f f' : ℕ) → AreSearchSets a w → AddsNode to a w a' w' f f'
      → AddsTargets p filter from a w a' w' f f'
  targets_node to r a w a' w' f f' sets h = record {
    kept = h.kept;
    waits_on = h.waits_on;
    new = λ n x. let reached : n ≡ to → Reaches p filter from n = λ same. subst (λ k. Reaches p filter from k) (sym same) r in
        grind (arith, reached, h.new n x, h.waits n, sets.among n);
    waits = λ n x. let reached : n ≡ to → Reaches p filter from n = λ same. subst (λ k. Reaches p filter from k) (sym same) r in
        grind (arith, reached, h.waits n x);
    earlier = h.earlier;
    room = h.room;
  }

  -- all that a target reaches is added
  pub targets_kept : (to : Node) → Reaches p filter from to → (a w a' set : List ℕ) (f : ℕ) → IsNodeSet a → IsNodeSet a' → IsUnion a set a'
      → IsClosed p filter set → ((m : Node) → IsIn set m → Reaches p filter to m) → AddsTargets p filter from a w a' w f f
  targets_kept to r a w a' set f is_a is_a' union closed reached = record {
    kept = λ n. union.has_left (node_index n);
    waits_on = λ n x. x;
    new = λ n x. elim (union.no_other (node_index n) x) [
      | inl old ↦ inl old
      | inr y ↦ inr (
        reaches-trans p filter from to n r (reached n y),
        inr (λ e followed same. union.has_right (node_index e.to) (closed e followed (subst (IsIn set) (sym same) y))),
      )
    ];
    waits = λ n x. inl x;
    earlier = omega arith;
    room = omega (arith, fewer_or_same a a' is_a is_a' union.has_left);
  }

-- ---- All that a node reaches

-- the set so far, while the frontier has nodes
pub record IsSearch (p : Program) (filter : EdgeFilter) (n : Node) (before members frontier : List ℕ) (first : ℕ) : Type 0 where
  pub sets : AreSearchSets members frontier
  pub kept : (m : Node) → IsIn before m → IsIn members m
  pub node : IsIn members n
  pub reached : (m : Node) → IsIn members m → IsIn before m ⊎ Reaches p filter n m
  pub waits : (m : Node) → IsIn frontier m → Reaches p filter n m
  pub closed : (e : Edge) → FollowedEdge p filter e → IsIn members e.from → has frontier (node_index e.from) ≡ false → IsIn members e.to
  pub front : (m : Node) → IsIn frontier m → first ≤ node_index m

module _ (p : Program) (filter : EdgeFilter) (n : Node) (before : List ℕ) where
  -- at first the frontier has the node alone
  pub search_begins : (members none frontier : List ℕ) (first first' : ℕ) → IsClosed p filter before → IsEmpty none → AreSearchSets members frontier
      → AddsNode n before none members frontier first first' → IsIn members n
      → IsSearch p filter n before members frontier first'
  search_begins members none frontier first first' closed empty sets h node = record {
    sets = sets;
    kept = h.kept;
    node = node;
    reached = λ m x. elim (h.new m x) [ inl old ↦ inl old | inr w ↦ inr (self m (only m w).0) ];
    waits = λ m w. self m (only m w).0;
    closed = λ e followed x idle. elim (h.new e.from x) [ inl old ↦ h.kept e.to (closed e followed old) | inr w ↦ absurd (not_both w idle) ];
    front = λ m w. (only m w).1;
  }
    where
      self : (m : Node) → m ≡ n → Reaches p filter n m
      self m same = subst (λ k. Reaches p filter n k) (sym same) (reaches_self p filter n)

      only : (m : Node) → IsIn frontier m → (m ≡ n) × (first' ≤ node_index m)
      only m w = elim (h.waits m w) [ inl old ↦ absurd (not_both old (empty (node_index m))) | inr (same, _, least) ↦ (same, least) ]

  module _ (members frontier frontier' members'' frontier'' : List ℕ) (first first'' : ℕ) (m : Node) (s : IsSearch p filter n before members frontier first)
      (has_m : IsIn frontier m) (none_before : (k : ℕ) → first ≤ k → k < node_index m → has frontier k ≡ false)
      (removed : HasChanged frontier frontier' (node_index m) false)
      (sets : AreSearchSets members'' frontier'') (h : AddsTargets p filter m members frontier' members'' frontier'' (node_index m) first'')
      (added : (e : Edge) → FollowedEdge p filter e → e.from ≡ m → IsIn members'' e.to) where
    waited : (k : Node) → IsIn frontier' k → IsIn frontier k
    waited k w = removed_was frontier frontier' m removed k w

    from_node : (k : Node) → Reaches p filter m k → Reaches p filter n k
    from_node k r = reaches-trans p filter n m k (s.waits m has_m) r

    waits_next : (k : Node) → IsIn frontier'' k → Reaches p filter n k
    waits_next k w = elim (h.waits k w) [ inl old ↦ s.waits k (waited k old) | inr (r, _) ↦ from_node k r ]

    -- no node of the frontier is before the one visited
    front_next : (k : Node) → IsIn frontier'' k → first'' ≤ node_index k
    front_next k w = grind (arith, h.waits k w, waited k, none_before (node_index k), s.front k, h.earlier)

    closed_next : (e : Edge) → FollowedEdge p filter e → IsIn members'' e.from → has frontier'' (node_index e.from) ≡ false → IsIn members'' e.to
    closed_next e followed x idle =
        elim (h.new e.from x) [
          | inr (_, inr leads) ↦ leads e followed refl
          | inr (_, inl w) ↦ absurd (not_both w idle)
          | inl old ↦ elim (cases_eq (node_index e.from) (node_index m)) [
            | inl same ↦ added e followed (node_same e.from m same)
            | inr other ↦ h.kept e.to (s.closed e followed old (grind (arith, h.waits_on e.from, removed.others (node_index e.from) other)))
          ]
        ]

    pub search_goes_on : IsSearch p filter n before members'' frontier'' first''
    search_goes_on = record {
      sets = sets;
      kept = λ k x. h.kept k (s.kept k x);
      node = h.kept n s.node;
      reached = λ k x. elim (h.new k x) [ inl old ↦ s.reached k old | inr (r, _) ↦ inr (from_node k r) ];
      waits = waits_next;
      closed = closed_next;
      front = front_next;
    }

    -- the sets have less room
    pub search_shrinks : IsNodeSet frontier' → bit_count frontier'' + 2 * (16384 - bit_count members'') < bit_count frontier + 2 * (16384 - bit_count members)
    search_shrinks is_frontier' =
        omega (
          arith,
          h.room,
          removed_count frontier frontier' s.sets.is_frontier is_frontier' (node_index m) removed has_m,
          count_within members s.sets.is_set,
          count_within members'' sets.is_set,
        )

  -- where the frontier is empty
  pub search_ends : (members frontier : List ℕ) (first : ℕ) → IsSearch p filter n before members frontier first
      → ((i : ℕ) → first ≤ i → has frontier i ≡ false) → IsClosed p filter members × AddsReached p filter n before members
  search_ends members frontier first s none = (
    (λ e followed x. s.closed e followed x (grind (arith, none (node_index e.from), s.front e.from))),
    record { kept = s.kept; node = s.node; reached = s.reached },
  )

  pub frontier_empty : (members frontier : List ℕ) (first : ℕ) → IsSearch p filter n before members frontier first
      → ((i : ℕ) → first ≤ i → has frontier i ≡ false) → IsEmpty frontier
  frontier_empty members frontier first s none i = let k = node_at i in grind (arith, k.1, none i, s.front k.0)
