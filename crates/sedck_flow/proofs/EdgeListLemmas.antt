-- Where the edges that leave one node lead, put in order one by one.
use Rattle.sedck_flow.proofs.Common.{◌≡◌, ◌⊎◌, ◌↔◌, ℕ, zero, suc, ◌<◌, true, false, List, [], ◌∷◌, ◌++◌, map, length, get_or, drop, Contains, refl, sym, ap, ◌∙◌, inl, inr, arith, Contains-cons_cases, Contains-cons_more, with_last, kind_index, ReadsLine, IsEarlier, ListsEdges, number, edge_to, Adds, AddsEdge, AddsLine, Node, Edge, Kind, Consume, take, AreInOrder, AreRising}
use Rattle.std.proofs.lemmas.List.Sorted.{IsPermutation-insert, IsPermutation-sym, Contains-permutation}
use Rattle.sedck_flow.proofs.NodeLemmas.{index-before, node_same}

-- ---- Targets and their numbers

abbrev target : Node → Kind → Node × Kind
target to kind = (to, kind)

index_small : (kind : Kind) → kind_index kind < 4
index_small kind = grind arith

-- the order of edges from one node is that of the numbers
earlier : (from : Node) (x y : Node × Kind) → number x < number y → IsEarlier (edge_to from x) (edge_to from y)
earlier from x y less = inr (refl, grind (arith, index-before x.0 y.0, node_same x.0 y.0, index_small x.1, index_small y.1))

edges_in_order : (from : Node) (targets : List (Node × Kind)) → AreRising targets → AreInOrder (map (edge_to from) targets)
edges_in_order from [] order = tt
edges_in_order from (x ∷ []) order = tt
edges_in_order from (x ∷ y ∷ targets) order = (earlier from x y order.0, edges_in_order from (y ∷ targets) order.1)

-- ---- One target more, at its place

module _ (y : Node × Kind) where
  rises : (xs : List (Node × Kind)) (i : ℕ) → AreRising xs → ((k : ℕ) → k < i → number (get_or xs k y) < number y)
      → (i < length xs → number y < number (get_or xs i y)) → AreRising (take i xs ++ y ∷ drop i xs)
  rises [] zero order before behind = tt
  rises [] (suc i) order before behind = tt
  rises (x ∷ xs) zero order before behind = (behind (omega arith), order)
  rises (x ∷ []) (suc zero) order before behind = (before 0 (omega arith), tt)
  rises (x ∷ []) (suc (suc i)) order before behind = (before 0 (omega arith), tt)
  rises (x ∷ z ∷ xs) (suc zero) order before behind = (before 0 (omega arith), (behind (omega arith), order.1))
  rises (x ∷ z ∷ xs) (suc (suc i)) order before behind = (
    order.0,
    rises (z ∷ xs) (suc i) order.1 (λ k less. before (suc k) (omega (arith, less))) (λ less. behind (omega (arith, less))),
  )

  has : (xs : List (Node × Kind)) (i : ℕ) (x : Node × Kind) → Contains (take i xs ++ y ∷ drop i xs) x ↔ ((x ≡ y) ⊎ Contains xs x)
  has xs i x =
      let moved = IsPermutation-insert xs i y in (
        λ h. elim (Contains-cons_cases y xs x (Contains-permutation _ _ x (IsPermutation-sym _ _ moved) h)) [ inl is ↦ inl (sym is) | inr more ↦ inr more ],
        elim [
          | inl is ↦ Contains-permutation _ _ x moved (0, omega arith, sym is)
          | inr more ↦ Contains-permutation _ _ x moved (Contains-cons_more y xs x more)
        ],
      )

  pub adds : (xs : List (Node × Kind)) (i : ℕ) → ((k : ℕ) → k < i → number (get_or xs k y) < number y)
      → (i < length xs → number y < number (get_or xs i y)) → AddsEdge y.1 y.0 xs (take i xs ++ y ∷ drop i xs)
  adds xs i before behind = record {
    in_order = λ order. rises xs i order before behind;
    same = λ k t. grind (arith, has xs i (t, k));
  }

-- ---- Edges that leave one node

contains_edge : (from : Node) (targets : List (Node × Kind)) (e : Edge)
    → Contains (map (edge_to from) targets) e ↔ ((e.from ≡ from) × Contains targets (e.to, e.kind))
contains_edge from [] e = (λ h. absurd (omega (arith, h.1)), λ h. absurd (omega (arith, h.1.1)))
contains_edge from (x ∷ targets) e = (
  λ h. elim (Contains-cons_cases (edge_to from x) (map (edge_to from) targets) e h) [
    | inl is ↦ (ap (λ (f : Edge). f.from) (sym is), (0, omega arith, ap (λ (f : Edge). target f.to f.kind) is))
    | inr more ↦ let k = (contains_edge from targets e).0 more in (k.0, Contains-cons_more x targets (e.to, e.kind) k.1)
  ],
  λ h. elim (Contains-cons_cases x targets (e.to, e.kind) h.1) [
    | inl is ↦ (0, omega arith, ap (edge_to from) is ∙ ap (λ n. edge_to n (target e.to e.kind)) (sym h.0))
    | inr more ↦ Contains-cons_more (edge_to from x) (map (edge_to from) targets) e ((contains_edge from targets e).1 (h.0, more))
  ],
)

-- the edges to the targets that were added to none are listed
pub lists_edges : (from : Node) (targets : List (Node × Kind)) (IsTarget : Kind → Node → Type 0) → Adds IsTarget [] targets
    → ListsEdges (map (edge_to from) targets) (λ e. (e.from ≡ from) × IsTarget e.kind e.to)
lists_edges from targets IsTarget adds = record {
  in_order = edges_in_order from targets (adds.in_order tt);
  same = λ e. (
    λ h. let k = (contains_edge from targets e).0 h in
        (k.0, elim ((adds.same e.kind e.to).0 k.1) [ inl new ↦ new | inr none ↦ absurd (omega (arith, none.1)) ]),
    λ h. (contains_edge from targets e).1 (h.0, (adds.same e.kind e.to).1 (inl h.1)),
  );
}

-- the same edges in other words
pub adds_same : (P Q : Kind → Node → Type 0) (before after : List (Node × Kind)) → ((kind : Kind) (to : Node) → P kind to ↔ Q kind to)
    → Adds P before after → Adds Q before after
adds_same P Q before after same adds = record {
  in_order = adds.in_order;
  same = λ k t. grind (arith, same k t, adds.same k t);
}

-- edges, and then more of them
pub adds_then : (P Q : Kind → Node → Type 0) (before between after : List (Node × Kind)) → Adds P before between → Adds Q between after
    → Adds (λ k t. P k t ⊎ Q k t) before after
adds_then P Q before between after first second = record {
  in_order = λ h. second.in_order (first.in_order h);
  same = λ k t. grind (arith, first.same k t, second.same k t);
}

-- where a line is left, it may be the last one or not
pub adds_both : (n to : Node) (before between after : List (Node × Kind)) → n.last ≡ false → AddsEdge Consume (with_last to false) before between
    → AddsEdge Consume (with_last to true) between after → AddsLine n to before after
adds_both n to before between after left first second =
    adds_same _ (ReadsLine n (with_last to)) before after (λ k t. (forth k t, back k t)) (adds_then _ _ before between after first second)
  where
    forth : (k : Kind) (t : Node) → ((k ≡ Consume) × (t ≡ with_last to false)) ⊎ ((k ≡ Consume) × (t ≡ with_last to true)) → ReadsLine n (with_last to) k t
    forth k t (inl h) = (left, h.0, false, h.1)
    forth k t (inr h) = (left, h.0, true, h.1)

    back : (k : Kind) (t : Node) → ReadsLine n (with_last to) k t → ((k ≡ Consume) × (t ≡ with_last to false)) ⊎ ((k ≡ Consume) × (t ≡ with_last to true))
    back k t (_, kind, false, is) = inl (kind, is)
    back k t (_, kind, true, is) = inr (kind, is)
