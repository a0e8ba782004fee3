-- Paths over followed edges, and sets that no followed edge leaves.
use Rattle.sedck_search.proofs.Common.{ℕ, ◌<◌, ◌≤◌, List, [], ◌∷◌, ◌++◌, length, refl, sym, subst, arith, IsScript, Program, node_index, FlowFrom, Node, Edge, Kind, inside, IsPath, IsFollowed, AreFollowed, Reaches, FollowedEdge, IsIn, IsClosed, EdgeFilter, Every, AreTargetsWithin}
use Rattle.sedck_flow.proofs.NodeLemmas as nodes

-- ---- Nodes and their places among all nodes

-- the nodes of a script have a place in each set
pub index_below : (p : Program) → IsScript p → (n : Node) → n.at ≤ length p.commands → node_index n < 16384
index_below p script n h = omega (arith, script.count, nodes.index_below n (length p.commands) h)

-- ---- Paths

-- every path is one of edges of every kind
pub all_followed : (path : List (Kind × Node)) → AreFollowed Every path
all_followed [] = tt
all_followed (edge ∷ path) = (tt, all_followed path)

module _ (p : Program) where
  pub path-append : (from mid to : Node) (a b : List (Kind × Node)) → IsPath p from a mid → IsPath p mid b to → IsPath p from (a ++ b) to
  path-append from mid to [] b is h = subst (λ n. IsPath p n b to) (sym is) h
  path-append from mid to (edge ∷ a) b h k = (h.0, path-append edge.1 mid to a b h.1 k)

  -- a path from a node of the script leads to one of the script
  pub path_inside : AreTargetsWithin p → (path : List (Kind × Node)) (n m : Node) → IsPath p n path m → n.at ≤ length p.commands → m.at ≤ length p.commands
  path_inside targets [] n m is h = subst (λ (x : Node). x.at ≤ length p.commands) is h
  path_inside targets (edge ∷ path) n m is h =
      path_inside targets path edge.1 m is.1 (inside p targets (record { from = n; to = edge.1; kind = edge.0 }) is.0).1

  module _ (filter : EdgeFilter) where
    pub followed-append : (a b : List (Kind × Node)) → AreFollowed filter a → AreFollowed filter b → AreFollowed filter (a ++ b)
    followed-append [] b h k = k
    followed-append (edge ∷ a) b h k = (h.0, followed-append a b h.1 k)

    pub reaches_self : (n : Node) → Reaches p filter n n
    reaches_self n = ([], refl, tt)

    pub reaches-trans : (a b c : Node) → Reaches p filter a b → Reaches p filter b c → Reaches p filter a c
    reaches-trans a b c h k = (h.0 ++ k.0, path-append a b c h.0 k.0 h.1 k.1, followed-append h.0 k.0 h.2 k.2)

    pub reaches_edge : (e : Edge) → FollowedEdge p filter e → Reaches p filter e.from e.to
    reaches_edge e h = ((e.kind, e.to) ∷ [], (h.0, refl), (h.1, tt))

    -- by an edge that leaves it
    pub reaches_from : (n : Node) (e : Edge) → FlowFrom p n e → IsFollowed filter e.kind → Reaches p filter n e.to
    reaches_from n e flow followed = subst (λ m. Reaches p filter m e.to) flow.1 (reaches_edge e (flow.0, followed))

    -- what a node of a closed set reaches is in the set
    pub closed_reaches : (members : List ℕ) → IsClosed p filter members → (path : List (Kind × Node)) (n m : Node) → IsPath p n path m → AreFollowed filter path
        → IsIn members n → IsIn members m
    closed_reaches members closed [] n m is followed h = subst (IsIn members) is h
    closed_reaches members closed (edge ∷ path) n m is followed h =
        closed_reaches members closed path edge.1 m is.1 followed.1 (closed (record { from = n; to = edge.1; kind = edge.0 }) (is.0, followed.0) h)

    pub reaches_inside : AreTargetsWithin p → (n m : Node) → Reaches p filter n m → n.at ≤ length p.commands → m.at ≤ length p.commands
    reaches_inside targets n m h k = path_inside targets h.0 n m h.1 k
