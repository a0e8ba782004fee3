-- A table of edges, to which those of one node more are added.
use Rattle.sedck_search.proofs.Common.{◌≡◌, ℕ, suc, ◌+◌, ◌-◌, ◌<◌, ◌≤◌, List, [], ◌∷◌, ◌++◌, length, take, drop, sym, ap, ap₂, ◌∙◌, subst, subst₂, inl, inr, length-append, arith, slice_index, cases_lt, length-drop, take-append-le, take_all, Program, node_index, FlowFrom, ListsEdges, Node, Edge, node_same, ListsNodes, slice_range, drop-append_seam, length_push, get_or_append_left, get_or_push, drop-append-le}

-- a part of a list is the same part of a longer one
range_kept : {A : Type 0} (xs more : List A) (start end : ℕ) → start ≤ end → end ≤ length xs → slice_range (xs ++ more) start end ≡ slice_range xs start end
range_kept xs more start end rising within =
    ap (take (end - start)) (drop-append-le start xs more (omega arith))
    ∙ take-append-le (end - start) (drop start xs) more (omega (arith, length-drop start xs))

-- the part that was added
range_added : {A : Type 0} (xs more : List A) → slice_range (xs ++ more) (length xs) (length (xs ++ more)) ≡ more
range_added xs more =
    ap (take (length (xs ++ more) - length xs)) (drop-append_seam xs more)
    ∙ take_all (length (xs ++ more) - length xs) more (omega (arith, length-append xs more))

module _ (p : Program) (starts : List ℕ) (edges more : List Edge) (n : Node) (h : ListsNodes p starts edges (node_index n))
    (listed : ListsEdges more (FlowFrom p n)) where
  abbrev all : List Edge
  all = edges ++ more

  abbrev all_starts : List ℕ
  all_starts = starts ++ length (edges ++ more) ∷ []

  before : (i : ℕ) → i ≤ node_index n → slice_index all_starts i ≡ slice_index starts i
  before i below = get_or_append_left starts (length all ∷ []) 0 i (omega (arith, below, h.long))

  after : slice_index all_starts (suc (node_index n)) ≡ length all
  after = get_or_push starts (length all) 0 (suc (node_index n)) h.long

  longer : length edges ≤ length all
  longer = omega (arith, length-append edges more)

  all_rising : (i : ℕ) → i < suc (node_index n) → slice_index all_starts i ≤ slice_index all_starts (suc i)
  all_rising i below = elim (cases_lt i (node_index n)) [
    | inl less ↦ omega (arith, before i (omega (arith, less)), before (suc i) (omega (arith, less)), h.rising i less)
    | inr least ↦
        let same : node_index n ≡ i = omega (arith, below, least) in
        subst (λ k. slice_index all_starts k ≤ slice_index all_starts (suc k)) same
        (omega (arith, before (node_index n) (omega arith), after, h.end, longer))
  ]

  all_within : (i : ℕ) → i ≤ suc (node_index n) → slice_index all_starts i ≤ length all
  all_within i below = elim (cases_lt i (suc (node_index n))) [
    | inl less ↦ omega (arith, before i (omega (arith, less)), h.within i (omega (arith, less)), longer)
    | inr least ↦
        let same : suc (node_index n) ≡ i = omega (arith, below, least) in
        subst (λ k. slice_index all_starts k ≤ length all) same (omega (arith, after))
  ]

  own : ListsEdges (slice_range all (slice_index all_starts (node_index n)) (slice_index all_starts (suc (node_index n)))) (FlowFrom p n)
  own = subst (λ l. ListsEdges l (FlowFrom p n))
      (sym (ap₂ (slice_range all) (before (node_index n) (omega arith) ∙ h.end) after ∙ range_added edges more)) listed

  all_listed : (m : Node) → node_index m < suc (node_index n)
      → ListsEdges (slice_range all (slice_index all_starts (node_index m)) (slice_index all_starts (suc (node_index m)))) (FlowFrom p m)
  all_listed m below = elim (cases_lt (node_index m) (node_index n)) [
    | inl less ↦
        subst (λ l. ListsEdges l (FlowFrom p m))
        (sym (ap₂ (slice_range all) (before (node_index m) (omega (arith, less))) (before (suc (node_index m)) (omega (arith, less)))
        ∙ range_kept edges more (slice_index starts (node_index m)) (slice_index starts (suc (node_index m))) (h.rising (node_index m) less)
        (h.within (suc (node_index m)) (omega (arith, less))))) (h.each m less)
    | inr least ↦
        let same : node_index n ≡ node_index m = omega (arith, below, least) in
        subst (λ k. ListsEdges (slice_range all (slice_index all_starts (node_index k)) (slice_index all_starts (suc (node_index k)))) (FlowFrom p k))
        (node_same n m same) own
  ]

  pub one_node_more : ListsNodes p (starts ++ length (edges ++ more) ∷ []) (edges ++ more) (suc (node_index n))
  one_node_more = record {
    long = omega (arith, length_push starts (length all), h.long);
    end = after;
    rising = all_rising;
    within = all_within;
    each = all_listed;
  }

-- ---- The edges of a node

module _ (p : Program) (starts given_starts : List ℕ) (edges given_edges : List Edge) (count : ℕ) (h : ListsNodes p starts edges count) (n : Node)
    (below : node_index n < count) (same_starts : given_starts ≡ starts) (same_edges : given_edges ≡ edges) (i : ℕ) (at : i ≡ node_index n) where
  next : suc (node_index n) ≡ i + 1
  next = omega (arith, at)

  pub edges_listed : ListsEdges (slice_range given_edges (slice_index given_starts i) (slice_index given_starts (i + 1))) (FlowFrom p n)
  edges_listed =
      subst₂ (λ s e. ListsEdges (slice_range e (slice_index s i) (slice_index s (i + 1))) (FlowFrom p n)) (sym same_starts) (sym same_edges)
      (subst₂ (λ a b. ListsEdges (slice_range edges (slice_index starts a) (slice_index starts b)) (FlowFrom p n)) (sym at) next (h.each n below))

  pub edges_rise : slice_index given_starts i ≤ slice_index given_starts (i + 1)
  edges_rise = subst (λ s. slice_index s i ≤ slice_index s (i + 1)) (sym same_starts)
      (subst₂ (λ a b. slice_index starts a ≤ slice_index starts b) (sym at) next (h.rising (node_index n) below))

  pub edges_within : slice_index given_starts (i + 1) ≤ length given_edges
  edges_within = subst₂ (λ s e. slice_index s (i + 1) ≤ length e) (sym same_starts) (sym same_edges)
      (subst (λ b. slice_index starts b ≤ length edges) next (h.within (suc (node_index n)) (omega (arith, below))))
