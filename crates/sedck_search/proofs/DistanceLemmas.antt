-- Ways are as long as shortest paths.
use Rattle.sedck_search.proofs.Common.{◌≡◌, ◌≢◌, ℕ, zero, suc, ◌+◌, ◌<◌, ◌≤◌, List, [], ◌∷◌, ◌++◌, length, get_or, Contains, refl, sym, ap, ◌∙◌, subst, subst₂, inl, inr, arith, Some, slice_get, set, eqb, if◌then◌else◌, length-set, cases_eq, nat_tests, slice_get-get_or, slice_get_within, get_or_from_slice_get, same_Some, IsScript, Program, node_index, node_count, Node, Edge, Kind, inside, node_same, index_below, IsPath, AreFollowed, FollowedEdge, IsIn, HasDistance, HasNeighborWithin, ArePathLengths, AreDistances, EdgeFilter, remove}
use Rattle.std.specs.Prelude.{true}
use Rattle.std.proofs.lemmas.List.Edits.{length-remove}
use Rattle.std.proofs.lemmas.List.Sorted.{IsPermutation-remove, Contains-permutation}
use Rattle.sedck_script.proofs.SortedNames.{Contains-cons_cases}
use Rattle.sedck_search.proofs.Scans.{set_same, set_other, entries_push as push_entry}

-- ---- A list with all numbers up to one is longer than it

-- a list without one of its elements
record IsWithout (x : ℕ) (xs ys : List ℕ) : Type 0 where
  long : length xs ≡ suc (length ys)
  others : (v : ℕ) → v ≢ x → Contains xs v → Contains ys v

without : (x : ℕ) (xs : List ℕ) → Contains xs x → (ys : List ℕ) × IsWithout x xs ys
without x xs (k, below, is) = let moved = IsPermutation-remove xs k x below (sym is) in (
  remove xs k,
  record {
    long = omega (arith, length-remove xs k below);
    others = λ v other h. elim (Contains-cons_cases x (remove xs k) v (Contains-permutation xs (x ∷ remove xs k) v moved h)) [
      | inl same ↦ absurd (other (sym same))
      | inr behind ↦ behind
    ];
  },
)

pub longer_than_all : (k : ℕ) (xs : List ℕ) → ((v : ℕ) → v ≤ k → Contains xs v) → k < length xs
longer_than_all zero xs all = let one = all 0 (omega arith) in omega (arith, one.1)
longer_than_all (suc k) xs all =
    let less = without (suc k) xs (all (suc k) (omega arith)) in
    omega (arith, less.1.long, longer_than_all k less.0 (λ v below. less.1.others v (λ is. absurd (omega (arith, below, is))) (all v (omega arith))))

-- ---- Ways

-- each node of the script has a distance or a mark
pub distance_at : (p : Program) (distances : List ℕ) → length distances ≡ node_count (length p.commands) → (n : Node) → n.at ≤ length p.commands
    → (distance : ℕ) × HasDistance distances n distance
distance_at p distances long n inside =
    let below : node_index n < length distances = omega (arith, long, index_below n (length p.commands) inside) in
    (get_or distances (node_index n) 0, slice_get-get_or distances (node_index n) 0 below)

pub eqb_same : (n : ℕ) → eqb n n ≡ true
eqb_same n = grind (arith, nat_tests)

-- the distances before any is shortened: none but that of the node itself
abbrev pub first_distance : ℕ → ℕ → ℕ
first_distance to i = if eqb i to then 0 else 65535

pub some_distances : (p : Program) (filter : EdgeFilter) (to : Node) (distances : List ℕ) → length distances ≡ node_count (length p.commands) → to.at ≤ length p.commands
    → ((i : ℕ) → i < length distances → slice_get distances i ≡ Some (first_distance (node_index to) i)) → ArePathLengths p filter to distances
some_distances p filter to distances long to_inside entries = record {
  long = long;
  small = λ n distance has. let is = value n distance has in grind (arith, nat_tests);
  here = entries (node_index to) (omega (arith, long, index_below to (length p.commands) to_inside))
      ∙ ap Some (ap (λ b. if b then 0 else 65535) (eqb_same (node_index to)));
  only = λ n has. let is = value n 0 has in node_same n to (grind (arith, nat_tests));
  on = λ n distance has small. let is = value n (suc distance) has in absurd (grind (arith, nat_tests));
}
  where
    value : (n : Node) (distance : ℕ) → HasDistance distances n distance → first_distance (node_index to) (node_index n) ≡ distance
    value n distance has = same_Some _ _ (sym (entries (node_index n) (slice_get_within distances (node_index n) distance has)) ∙ has)

-- one distance gets shorter
module _ (p : Program) (filter : EdgeFilter) (to : Node) (distances : List ℕ) (h : ArePathLengths p filter to distances) (n : Node) (distance old : ℕ)
    (was : HasDistance distances n old) (shorter : suc distance < old) (goes : HasNeighborWithin p filter distances n distance) where
  below : node_index n < length distances
  below = slice_get_within distances (node_index n) old was

  is_set : HasDistance (set distances (node_index n) (suc distance)) n (suc distance)
  is_set = set_same distances (node_index n) (suc distance) below

  others : (m : Node) → node_index m ≢ node_index n → slice_get (set distances (node_index n) (suc distance)) (node_index m) ≡ slice_get distances (node_index m)
  others m other = set_other distances (node_index n) (node_index m) (suc distance) other

  neighbor_at : (m : Node) (limit : ℕ) (g : HasNeighborWithin p filter distances m limit) (new : ℕ)
      → HasDistance (set distances (node_index n) (suc distance)) g.edge.to new → new ≤ limit
      → HasNeighborWithin p filter (set distances (node_index n) (suc distance)) m limit
  neighbor_at m limit g new has near =
      record { edge = g.edge; followed = g.followed; leaves = g.leaves; distance = new; has_distance = has; nearer = near }

  goes_on_set : (m : Node) (limit : ℕ) → HasNeighborWithin p filter distances m limit → HasNeighborWithin p filter (set distances (node_index n) (suc distance)) m limit
  goes_on_set m limit g = elim (cases_eq (node_index g.edge.to) (node_index n)) [
    | inl same ↦
        let is : g.distance ≡ old = same_Some _ _ (sym g.has_distance ∙ ap (slice_get distances) same ∙ was) in
        neighbor_at m limit g (suc distance) (ap (slice_get (set distances (node_index n) (suc distance))) same ∙ is_set) (omega (arith, is, shorter, g.nearer))
    | inr other ↦ neighbor_at m limit g g.distance (others g.edge.to other ∙ g.has_distance) g.nearer
  ]

  pub distances_set : ArePathLengths p filter to (set distances (node_index n) (suc distance))
  distances_set = record {
    long = length-set distances (node_index n) (suc distance) ∙ h.long;
    small = λ m v has. grind (arith, is_set, others m, h.small m v, h.small n old was);
    here = grind (arith, others to, h.here);
    only = λ m has. grind (arith, is_set, others m, h.only m);
    on = λ m v has small. elim (cases_eq (node_index m) (node_index n)) [
      | inl same ↦
          let is : suc distance ≡ suc v = grind (arith, is_set) in
          subst₂ (λ k l. HasNeighborWithin p filter (set distances (node_index n) (suc distance)) k l) (sym (node_same m n same)) (let e : distance ≡ v = omega (arith, is) in e)
          (goes_on_set n distance goes)
      | inr other ↦ goes_on_set m v (h.on m v (sym (set_other distances (node_index n) (node_index m) (suc distance) other) ∙ has) small)
    ];
  }

module _ (p : Program) (script : IsScript p) (filter : EdgeFilter) (to : Node) (distances : List ℕ) (h : AreDistances p filter to distances) where
  -- the next distance is shorter by one
  pub next_distance : (n : Node) (distance : ℕ) → IsIn h.reach n → HasDistance distances n (suc distance) → suc distance < 65535
      → (e : Edge) × FollowedEdge p filter e × (e.from ≡ n) × HasDistance distances e.to distance
  next_distance n distance reached has within =
      let g = h.some.on n distance has within in
      let same : g.distance ≡ distance = omega (arith, g.nearer, h.settled n reached g.edge g.followed g.leaves (suc distance) g.distance has g.has_distance) in
      (g.edge, g.followed, g.leaves, subst (HasDistance distances g.edge.to) same g.has_distance)

  -- a followed edge stays in the set
  pub stays : (n : Node) (e : Edge) → IsIn h.reach n → FollowedEdge p filter e → e.from ≡ n → IsIn h.reach e.to
  stays n e reached followed leaves = h.closed e followed (subst (IsIn h.reach) (sym leaves) reached)

  contained : (n : Node) (distance v : ℕ) → HasDistance distances n distance → v ≡ distance → Contains distances v
  contained n distance v has same =
      let x : HasDistance distances n v = subst (HasDistance distances n) (sym same) has in
      (node_index n, slice_get_within distances (node_index n) v x, get_or_from_slice_get distances (node_index n) v v x)

  -- so there are all shorter distances
  all_below : (d : ℕ) (n : Node) → IsIn h.reach n → HasDistance distances n d → d < 65535 → (v : ℕ) → v ≤ d → Contains distances v
  all_below zero n reached has within v below = contained n 0 v has (omega (arith, below))
  all_below (suc d) n reached has within v below =
      let next = next_distance n d reached has within in
      elim (cases_eq v (suc d)) [
        | inl same ↦ contained n (suc d) v has same
        | inr other ↦ all_below d next.0.to (stays n next.0 reached next.1 next.2) next.3 (omega (arith, within)) v (omega (arith, below, other))
      ]

  -- and none is longer than the list
  pub distance_below : (n : Node) (distance : ℕ) → IsIn h.reach n → HasDistance distances n distance → distance < 65535 → distance < 16384
  distance_below n distance reached has within =
      omega (arith, longer_than_all distance distances (all_below distance n reached has within), h.some.long, script.count)

  -- a path to the node gives a distance that isn't longer
  pub distance_least : (path : List (Kind × Node)) (n : Node) → IsIn h.reach n → IsPath p n path to → AreFollowed filter path → n.at ≤ length p.commands
      → (distance : ℕ) × HasDistance distances n distance × (distance ≤ length path) × (distance < 65535)
  distance_least [] n reached is followed n_inside = (0, subst (λ k. HasDistance distances k 0) (sym is) h.some.here, omega arith, omega arith)
  distance_least (edge ∷ path) n reached is followed n_inside =
      let e : Edge = record { from = n; to = edge.1; kind = edge.0 } in
      let e_reached = stays n e reached (is.0, followed.0) refl in
      let next = distance_least path edge.1 e_reached is.1 followed.1 (inside p script.targets e is.0).1 in
      let here = distance_at p distances h.some.long n n_inside in
      let less : here.0 ≤ suc next.0 = h.settled n reached e (is.0, followed.0) refl here.0 next.0 here.1 next.1 in
      (here.0, here.1, omega (arith, less, next.2), omega (arith, less, distance_below edge.1 next.0 e_reached next.1 next.3))

-- one more entry
pub entries_push : (f : ℕ → ℕ) (xs : List ℕ) (i v : ℕ) → length xs ≡ i → ((j : ℕ) → j < i → slice_get xs j ≡ Some (f j)) → v ≡ f i → (j : ℕ)
    → j < i + 1 → slice_get (xs ++ v ∷ []) j ≡ Some (f j)
entries_push f xs i v long h is j below = push_entry xs v f (λ k less. h k (omega (arith, less, long))) (is ∙ ap f (sym long)) j (omega (arith, below, long))
