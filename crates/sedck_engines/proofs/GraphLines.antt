-- The edges of a flow graph, node after node.
use Rattle.sedck_engines.proofs.Common.{◌≡◌, ℕ, ◌+◌, ◌<◌, ◌≤◌, List, [], ◌∷◌, ◌++◌, length, Contains, refl, sym, ap, ◌∙◌, inl, inr, arith, append_assoc, cases_lt, Program, node_index, node_count, Node, edge_words, line, edge_lines, AddsEdgesFrom}
use Rattle.std.proofs.lemmas.List.Elements.{Contains-append_cases, Contains-append_left, Contains-append_right}
use Rattle.sedck_script.proofs.SortedNames.{Contains-cons_more}
use Rattle.sedck_flow.specs.Flow.{Flow, IsEarlier, AreInOrder, ListsEdges}
use Rattle.sedck_flow.specs.declared.graph.Edge.{Edge}
use Rattle.sedck_flow.proofs.NodeLemmas.{index-before, node_same}
use Rattle.sedck_cert.proofs.CheckingLemmas.{leaves_below}

-- the edges of the nodes so far have been added
pub record IsGraphUpTo (p : Program) (index : ℕ) (before after : List ℕ) : Type 0 where
  pub edges : List Edge
  pub lists : ListsEdges edges (λ e. Flow p e × (node_index e.from < index))
  pub added : after ≡ before ++ edge_lines edges

pub edge_lines-append : (xs ys : List Edge) → edge_lines (xs ++ ys) ≡ edge_lines xs ++ edge_lines ys
edge_lines-append [] ys = refl
edge_lines-append (e ∷ xs) ys =
    ap (λ t. line (edge_words e) ++ t) (edge_lines-append xs ys) ∙ sym (append_assoc (line (edge_words e)) (edge_lines xs) (edge_lines ys))

append_order : (xs ys : List Edge) → AreInOrder xs → AreInOrder ys → ((e f : Edge) → Contains xs e → Contains ys f → IsEarlier e f) → AreInOrder (xs ++ ys)
append_order [] ys ox oy before = oy
append_order (e ∷ []) [] ox oy before = tt
append_order (e ∷ []) (f ∷ ys) ox oy before = (before e f (0, omega arith, refl) (0, omega arith, refl), oy)
append_order (e ∷ f ∷ xs) ys ox oy before = (ox.0, append_order (f ∷ xs) ys ox.1 oy (λ a b h k. before a b (Contains-cons_more e (f ∷ xs) a h) k))

pub one_more : (p : Program) (n : Node) (index : ℕ) (before mid after : List ℕ) → node_index n ≡ index → IsGraphUpTo p index before mid
    → AddsEdgesFrom p n mid after → IsGraphUpTo p (index + 1) before after
one_more p n index before mid after is upto adds = record {
  edges = upto.edges ++ adds.edges;
  lists = record {
    in_order = append_order upto.edges adds.edges upto.lists.in_order adds.lists.in_order (λ e f h k.
        inl (index-before e.from f.from (omega (arith, ((upto.lists.same e).0 h).1, is, ap node_index ((adds.lists.same f).0 k).1))));
    same = λ e. (
      λ h. elim (Contains-append_cases upto.edges adds.edges e h) [
        | inl old ↦ let fact = (upto.lists.same e).0 old in (fact.0, omega (arith, fact.1))
        | inr new ↦ let fact = (adds.lists.same e).0 new in (fact.0, omega (arith, is, ap node_index fact.1))
      ],
      λ h. elim (cases_lt (node_index e.from) index) [
        | inl less ↦ Contains-append_left upto.edges adds.edges e ((upto.lists.same e).1 (h.0, less))
        | inr more ↦ Contains-append_right upto.edges adds.edges e ((adds.lists.same e).1 (h.0, node_same e.from n (omega (arith, h.1, more, is))))
      ],
    );
  };
  added = adds.added ∙ ap (λ t. t ++ edge_lines adds.edges) upto.added ∙ append_assoc before (edge_lines upto.edges) (edge_lines adds.edges)
      ∙ ap (λ t. before ++ t) (sym (edge_lines-append upto.edges adds.edges));
}

-- after the last node these are all edges
pub all_nodes : (p : Program) (index : ℕ) (before after : List ℕ) → node_count (length p.commands) ≤ index → (upto : IsGraphUpTo p index before after)
    → ListsEdges upto.edges (Flow p)
all_nodes p index before after end upto = record {
  in_order = upto.lists.in_order;
  same = λ e. (λ h. ((upto.lists.same e).0 h).0, λ h. (upto.lists.same e).1 (h, omega (arith, leaves_below p e h, end)));
}
