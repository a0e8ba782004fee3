-- The edges of a node, scan over one after another.
use Rattle.sedck_search.proofs.Common.{◌≡◌, ℕ, zero, suc, ◌<◌, ◌≤◌, length, List, [], ◌∷◌, ◌++◌, Contains, ◌≢◌, refl, sym, ap, ◌∙◌, subst, inl, inr, append-nil, append_assoc, arith, Some, slice_get, set, length-set, slice_get-get_or, slice_get_past, get_or_from_slice_get, IsScript, Program, node_index, node_count, FlowFrom, ListsEdges, inside, index_below, Node, Edge, get_or-set_same, get_or-set_other, Contains-push_cases, Contains-append_right}
use Rattle.std.specs.Prelude.{get_or}

-- the edges of a node, of which something holds for those that follow
pub record AreScanned (p : Program) (n : Node) (done coming : List Edge) (Holds : Edge → Type 0) : Type 0 where
  pub listed : ListsEdges (done ++ coming) (FlowFrom p n)
  pub held : (e : Edge) → Contains done e → Holds e

none_done : (Holds : Edge → Type 0) (e : Edge) → Contains [] e → Holds e
none_done Holds e (k, below, is) = absurd (omega (arith, below))

module _ {p : Program} {n : Node} where
  pub scan_none : {Holds : Edge → Type 0} (coming : List Edge) → ListsEdges coming (FlowFrom p n) → AreScanned p n [] coming Holds
  scan_none {Holds} coming h = record { listed = h; held = none_done Holds }

  -- one edge more
  pub scan_more : {Holds Holds' : Edge → Type 0} {done coming : List Edge} {e : Edge} → AreScanned p n done (e ∷ coming) Holds
      → ((f : Edge) → Holds f → Holds' f) → Holds' e → AreScanned p n (done ++ e ∷ []) coming Holds'
  scan_more {Holds} {Holds'} {done} {coming} {e} h on at = record {
    listed = subst (λ edges. ListsEdges edges (FlowFrom p n)) (sym (append_assoc done (e ∷ []) coming)) h.listed;
    held = λ f x. elim (Contains-push_cases done e f x) [ inl before ↦ on f (h.held f before) | inr same ↦ subst Holds' same at ];
  }

  -- the edge that comes next
  pub scan_next : {Holds : Edge → Type 0} {done iterator coming : List Edge} {e : Edge} → iterator ≡ e ∷ coming → AreScanned p n done iterator Holds
      → AreScanned p n done (e ∷ coming) Holds
  scan_next {Holds} {done} is h = subst (λ edges. AreScanned p n done edges Holds) is h

  -- each edge that comes is one of the node's
  pub edge_coming : {Holds : Edge → Type 0} {done coming : List Edge} {e : Edge} → AreScanned p n done (e ∷ coming) Holds → FlowFrom p n e
  edge_coming {done = done} {coming = coming} {e = e} h = (h.listed.same e).0 (Contains-append_right done (e ∷ coming) e (0, omega arith, refl))

  -- after the last edge it holds for all
  pub scan_all : {Holds : Edge → Type 0} {done : List Edge} → AreScanned p n done [] Holds → (e : Edge) → FlowFrom p n e → Holds e
  scan_all {done = done} h e is_edge = h.held e (subst (λ edges. Contains edges e) (append-nil done) ((h.listed.same e).1 is_edge))

  pub scan_end : {Holds : Edge → Type 0} {done iterator : List Edge} → iterator ≡ [] → AreScanned p n done iterator Holds → (e : Edge)
      → FlowFrom p n e → Holds e
  scan_end {Holds} {done} is h = scan_all (subst (λ edges. AreScanned p n done edges Holds) is h)

  -- it leads to a node of the script
  pub target_coming : {Holds : Edge → Type 0} {done coming : List Edge} {e : Edge} → IsScript p → AreScanned p n done (e ∷ coming) Holds
      → e.to.at ≤ length p.commands
  target_coming {e = e} script h = (inside p script.targets e (edge_coming h).0).1

-- a node of the script has its place in a list with four places a command and four for the end
pub place_in : {A : Type 0} (p : Program) (xs : List A) → length xs ≡ node_count (length p.commands) → (n : Node) → n.at ≤ length p.commands → node_index n < length xs
place_in p xs long n h = omega (arith, long, index_below n (length p.commands) h)

-- ---- Places in lists

pub entry_is : (xs : List ℕ) (n : Node) (i v : ℕ) → i ≡ node_index n → i < length xs → get_or xs i 0 ≡ v → slice_get xs (node_index n) ≡ Some v
entry_is xs n i v is below e = ap (slice_get xs) (sym is) ∙ slice_get-get_or xs i 0 below ∙ ap Some e

pub entry_of : (xs : List ℕ) (n : Node) (i v : ℕ) → i ≡ node_index n → slice_get xs (node_index n) ≡ Some v → get_or xs i 0 ≡ v
entry_of xs n i v is has = get_or_from_slice_get xs i v 0 (ap (slice_get xs) is ∙ has)

-- one entry more
pub entries_push : {A : Type 0} (xs : List A) (y : A) (f : ℕ → A) → ((i : ℕ) → i < length xs → slice_get xs i ≡ Some (f i)) → y ≡ f (length xs) → (i : ℕ)
    → i < suc (length xs) → slice_get (xs ++ y ∷ []) i ≡ Some (f i)
entries_push [] y f all is zero below = ap Some is
entries_push [] y f all is (suc i) below = absurd (omega (arith, below))
entries_push (x ∷ xs) y f all is zero below = all 0 (omega arith)
entries_push (x ∷ xs) y f all is (suc i) below = entries_push xs y (λ k. f (suc k)) (λ k less. all (suc k) (omega (arith, less))) is i (omega (arith, below))

-- a list with another number at one place
pub set_same : (xs : List ℕ) (i v : ℕ) → i < length xs → slice_get (set xs i v) i ≡ Some v
set_same xs i v below = slice_get-get_or (set xs i v) i 0 (subst (λ k. i < k) (sym (length-set xs i v)) below) ∙ ap Some (get_or-set_same xs i v 0 below)

pub set_other : (xs : List ℕ) (i j v : ℕ) → j ≢ i → slice_get (set xs i v) j ≡ slice_get xs j
set_other xs i j v other =
    let kept = get_or-set_other xs i j v 0 other in
    let long = length-set xs i v in
    grind (arith, slice_get-get_or xs j 0, slice_get-get_or (set xs i v) j 0, slice_get_past xs j, slice_get_past (set xs i v) j)
