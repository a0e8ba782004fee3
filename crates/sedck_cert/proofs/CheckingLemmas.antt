-- Edges in their order, and the first that the ranks don't meet.
use Rattle.sedck_cert.proofs.Common.{◌≡◌, ◌≢◌, Bool, ◌<◌, ◌≤◌, List, [], ◌∷◌, ◌++◌, Contains, refl, sym, ap, ◌∙◌, subst, inl, inr, arith, is_some, MatchOption, slice_get, AllByRecursion, All-from_recursion, All-contains, Contains-append_cases, Contains-append_right, Command, Program, start, node_index, node_count, Flow, FlowFrom, ListsEdges, Node, Edge, Certificate, ranks_at, MeetsEdge, IsRanked, IsRejection, Rejection, LeavesRanked, NotLowered, Contains-cons_cases, slice_get_within, ReadsLine, CommandEdge, IsEarlier, AreInOrder, IsStarted, IsFirstUnmet}
use Rattle.std.specs.Prelude.{Option, Some, None, true, length}
use Rattle.sedck_flow.proofs.NodeLemmas.{before-index, index_below}
use Rattle.sedck_flow.proofs.EdgeOrder.{never_earlier, earlier-trans}
use Rattle.sedck_cert.specs.Private.Checking.{IsUnmetBy, IsFirstUnmetOf, MeetsAll, JudgesEdges}

-- the edges are these, in order, of which the first are met
pub record IsUpTo (c : Certificate) (IsEdge : Edge → Type 0) (done coming : List Edge) : Type 0 where
  pub listed : ListsEdges (done ++ coming) IsEdge
  pub met : AllByRecursion (MeetsEdge c) done

-- ---- The order of edges

-- in order, an edge is earlier than all after it
all_behind : (e : Edge) (coming : List Edge) → AreInOrder (e ∷ coming) → AllByRecursion (IsEarlier e) coming
all_behind e [] h = tt
all_behind e (f ∷ coming) h =
    (h.0, all_further e f coming h.0 (all_behind f coming h.1))
  where
    all_further : (e f : Edge) (gs : List Edge) → IsEarlier e f → AllByRecursion (IsEarlier f) gs → AllByRecursion (IsEarlier e) gs
    all_further e f [] a h = tt
    all_further e f (g ∷ gs) a h = (earlier-trans e f g a h.0, all_further e f gs a h.1)

-- the rest of a list in order is in order
order_behind : (done coming : List Edge) → AreInOrder (done ++ coming) → AreInOrder coming
order_behind [] coming h = h
order_behind (e ∷ []) [] h = tt
order_behind (e ∷ []) (f ∷ coming) h = h.1
order_behind (e ∷ f ∷ done) coming h = order_behind (f ∷ done) coming h.1

-- what holds of each by recursion holds of one of them
one_of_all : (P : Edge → Type 0) (edges : List Edge) (e : Edge) → AllByRecursion P edges → Contains edges e → P e
one_of_all P edges e all h = All-contains P edges e (All-from_recursion P edges all) h

-- an edge after the first of these isn't earlier than it
not_earlier : (e f : Edge) (coming : List Edge) → AreInOrder (e ∷ coming) → Contains (e ∷ coming) f → IsEarlier f e → ⊥
not_earlier e f coming order h earlier =
    elim (Contains-cons_cases e coming f h) [
      | inl same ↦ never_earlier e (subst (λ g. IsEarlier g e) (sym same) earlier)
      | inr behind ↦ never_earlier e (earlier-trans e f e (one_of_all (IsEarlier e) coming f (all_behind e coming order) behind) earlier)
    ]

-- the first edge that isn't met, where those before it are
pub first_found : (c : Certificate) (IsEdge : Edge → Type 0) (done coming : List Edge) (e : Edge) (found : Option Rejection)
    → ListsEdges (done ++ e ∷ coming) IsEdge → AllByRecursion (MeetsEdge c) done → MatchOption found (MeetsEdge c e) (IsUnmetBy c e) → is_some found ≡ true
    → JudgesEdges c IsEdge found
first_found c IsEdge done coming e None listed met judged some = cc
first_found c IsEdge done coming e (Some why) listed met judged some = record {
  edge = e;
  is_edge = (listed.same e).0 (Contains-append_right done (e ∷ coming) e (0, omega arith, refl));
  unmet = judged;
  earlier = λ f is_edge earlier. elim (Contains-append_cases done (e ∷ coming) f ((listed.same f).1 is_edge)) [
    | inl before ↦ one_of_all (MeetsEdge c) done f met before
    | inr behind ↦ absurd (not_earlier e f coming (order_behind done (e ∷ coming) listed.in_order) behind earlier)
  ];
}

-- ---- The starts

some_of : {A : Type 0} (o : Option A) → o ≢ None → (x : A) × (o ≡ Some x)
some_of None some = absurd (some refl)
some_of (Some x) some = (x, refl)

-- both starts have ranks, and the ranks meet each edge
pub is_ranked : (p : Program) (c : Certificate) → ((last : Bool) → ranks_at c (start last) ≢ None) → MeetsAll c (Flow p) → IsRanked p c
is_ranked p c starts meets = record {
  start_ranks = λ last. (some_of (ranks_at c (start last)) (starts last)).0;
  has_start = λ last. (some_of (ranks_at c (start last)) (starts last)).1;
  meets = meets;
}

-- ---- All nodes

-- an edge leaves a command, or the script's end
leaves_inside : (p : Program) (e : Edge) (o : Option Command) → slice_get p.commands e.from.at ≡ o
    → MatchOption o ((e.from.at ≡ length p.commands) × ReadsLine e.from start e.kind e.to) (λ c. CommandEdge p c e.from e.kind e.to)
    → e.from.at ≤ length p.commands
leaves_inside p e None is h = omega (arith, h.0)
leaves_inside p e (Some c) is h = omega (arith, slice_get_within p.commands e.from.at c is)

-- so its node is one of the certificate's
pub leaves_below : (p : Program) (e : Edge) → Flow p e → node_index e.from < node_count (length p.commands)
leaves_below p e h = index_below e.from (length p.commands) (leaves_inside p e (slice_get p.commands e.from.at) refl h)

-- the first edge of a node that isn't met, where those of the nodes before it are
pub first_of_all : (p : Program) (c : Certificate) (n : Node) (found : Option Rejection)
    → ((e : Edge) → Flow p e → node_index e.from < node_index n → MeetsEdge c e) → JudgesEdges c (FlowFrom p n) found → is_some found ≡ true
    → JudgesEdges c (Flow p) found
first_of_all p c n None before judged some = cc
first_of_all p c n (Some why) before judged some = record {
  edge = judged.edge;
  is_edge = judged.is_edge.0;
  unmet = judged.unmet;
  earlier = λ f is_edge earlier. elim earlier [
    | inl less ↦ before f is_edge (omega (arith, before-index f.from judged.edge.from less, ap node_index judged.is_edge.1))
    | inr (same, later) ↦ judged.earlier f (is_edge, same ∙ judged.is_edge.1) (inr (same, later))
  ];
}

first_unmet : (p : Program) (c : Certificate) (e : Edge) → Flow p e → ¬ MeetsEdge c e → ((f : Edge) → Flow p f → IsEarlier f e → MeetsEdge c f)
    → IsFirstUnmet p c e
first_unmet p c e is_edge unmet earlier = record { is_edge = is_edge; unmet = unmet; earlier = earlier }

-- after count and start, the first edge that isn't met is what is rejected
pub edge_rejection : (p : Program) (c : Certificate) (why : Rejection) → IsStarted p c → IsFirstUnmetOf c (Flow p) why → IsRejection p c why
edge_rejection p c (LeavesRanked e) started h =
    let is : e ≡ h.edge = h.unmet.0 in
    (started, subst (IsFirstUnmet p c) (sym is) (first_unmet p c h.edge h.is_edge h.unmet.1 h.earlier), ap (λ (f : Edge). ranks_at c f.to) is ∙ h.unmet.2)
edge_rejection p c (NotLowered e) started h =
    let is : e ≡ h.edge = h.unmet.0 in (
      started,
      subst (IsFirstUnmet p c) (sym is) (first_unmet p c h.edge h.is_edge h.unmet.1 h.earlier),
      λ none. h.unmet.2 (sym (ap (λ (f : Edge). ranks_at c f.to) is) ∙ none),
    )
edge_rejection p c why started h = absurd h.unmet
