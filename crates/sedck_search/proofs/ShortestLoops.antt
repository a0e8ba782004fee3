-- Walks, written edge by edge.
use Rattle.sedck_search.proofs.Common.{◌≡◌, ℕ, suc, ◌+◌, ◌<◌, ◌≤◌, List, [], ◌∷◌, ◌++◌, length, refl, sym, ap, ◌∙◌, subst, arith, IsScript, Program, Flow, Node, Edge, Kind, inside, IsPath, AreFollowed, FollowedEdge, IsIn, HasDistance, AreDistances, back_filter, closing_kind, IsBegun, IsClosing, IsNearest, IsShortestLoop, EdgeFilter, Form, Walk, IsWalk, walk_edges}
use Rattle.std.proofs.lemmas.List.{length-append}
use Rattle.sedck_search.proofs.ClosedWalks.{closing_follows}
use Rattle.sedck_search.proofs.Paths.{path-append, followed-append}
use Rattle.sedck_search.proofs.DistanceLemmas.{distance_least}

-- one edge more at the end
walk_edges-push : (nodes : List Node) (kinds : List Kind) (node : Node) (kind : Kind) → length nodes ≡ suc (length kinds)
    → walk_edges (nodes ++ node ∷ []) (kinds ++ kind ∷ []) ≡ walk_edges nodes kinds ++ (kind, node) ∷ []
walk_edges-push (first ∷ []) [] node kind e = refl
walk_edges-push (first ∷ next ∷ nodes) (k ∷ kinds) node kind e =
    ap (λ edges. (k, next) ∷ edges) (walk_edges-push (next ∷ nodes) kinds node kind
    (let e' : length (next ∷ nodes) ≡ suc (length kinds) = omega (arith, e) in e'))
walk_edges-push _ _ node kind e = absurd (omega (arith, e))

pub walk-push : (nodes : List Node) (kinds : List Kind) (n : Node) (walk : List (Kind × Node)) (node : Node) (kind : Kind) → IsWalk nodes kinds n walk
    → IsWalk (nodes ++ node ∷ []) (kinds ++ kind ∷ []) n (walk ++ (kind, node) ∷ [])
walk-push nodes kinds n walk node kind w = record {
  rest = w.rest ++ node ∷ [];
  begins = ap (λ l. l ++ node ∷ []) w.begins;
  counts = length-append nodes (node ∷ []) ∙ ap (λ k. k + 1) w.counts ∙ (let e : suc (length kinds) + 1 ≡ suc (length kinds + 1) = omega arith in e)
      ∙ ap suc (sym (length-append kinds (kind ∷ [])));
  edges = ap (λ l. l ++ (kind, node) ∷ []) w.edges ∙ sym (walk_edges-push nodes kinds node kind w.counts);
}

-- the walk so far: a first edge, and edges back that come nearer by one each time
pub record IsWalking (p : Program) (filter : EdgeFilter) (distances : List ℕ) (first : Edge) (nodes : List Node) (kinds : List Kind) (at : Node)
    (step left : ℕ) : Type 0 where
  pub walked : List (Kind × Node)
  pub written : IsWalk nodes kinds first.from ((first.kind, first.to) ∷ walked)
  pub path : IsPath p first.to walked at
  pub followed : AreFollowed filter walked
  pub long : length walked ≡ step
  pub has_distance : HasDistance distances at left
  pub inside : at.at ≤ length p.commands

module _ (p : Program) (script : IsScript p) (filter : EdgeFilter) (distances : List ℕ) (first : Edge) where
  pub walking_begins : Flow p first → (left : ℕ) → HasDistance distances first.to left
      → IsWalking p filter distances first (first.from ∷ first.to ∷ []) (first.kind ∷ []) first.to 0 left
  walking_begins flows left has = record {
    walked = [];
    written = record { rest = first.to ∷ []; begins = refl; counts = refl; edges = refl };
    path = refl;
    followed = tt;
    long = refl;
    has_distance = has;
    inside = (inside p script.targets first flows).1;
  }

  pub walking_goes_on : (nodes : List Node) (kinds : List Kind) (at : Node) (step left left' : ℕ) (e : Edge)
      → IsWalking p filter distances first nodes kinds at step left → FollowedEdge p filter e → e.from ≡ at → HasDistance distances e.to left'
      → IsWalking p filter distances first (nodes ++ e.to ∷ []) (kinds ++ e.kind ∷ []) e.to (step + 1) left'
  walking_goes_on nodes kinds at step left left' e w edge leaves has = record {
    walked = w.walked ++ (e.kind, e.to) ∷ [];
    written = walk-push nodes kinds first.from ((first.kind, first.to) ∷ w.walked) e.to e.kind w.written;
    path = path-append p first.to at e.to w.walked ((e.kind, e.to) ∷ []) w.path
        (subst (λ k. Flow p (record { from = k; to = e.to; kind = e.kind })) leaves edge.0, refl);
    followed = followed-append p filter w.walked ((e.kind, e.to) ∷ []) w.followed (edge.1, tt);
    long = length-append w.walked ((e.kind, e.to) ∷ []) ∙ ap (λ k. k + 1) w.long;
    has_distance = has;
    inside = (inside p script.targets e edge.0).1;
  }

-- an edge that begins a loop of the form is followed
-- it leads to a node of the set in which distances are known
pub begin_reached : (p : Program) (form : Form) (n : Node) (distances : List ℕ) (h : AreDistances p (back_filter form) n distances) → (e : Edge)
    → Flow p e → e.kind ≡ closing_kind form → e.from ≡ n → IsIn h.reach e.to
begin_reached p form n distances h e flow is_kind leaves =
    h.closed e (flow, closing_follows form e.kind is_kind) (subst (IsIn h.reach) (sym leaves) h.here)

-- a nearest edge has a distance back
pub near_small : (p : Program) → IsScript p → (form : Form) (closing first : Edge) (distances : List ℕ) → AreDistances p (back_filter form) closing.from distances
    → IsClosing p form closing → (near : IsNearest p distances closing first) → near.distance < 65535
near_small p script form closing first distances are_distances closes near =
    let back = distance_least p script (back_filter form) closing.from distances are_distances closes.back.0 closing.to
    (begin_reached p form closing.from distances are_distances closing closes.is_edge closes.is_kind refl) closes.back.1 closes.back.2
    (inside p script.targets closing closes.is_edge).1 in
    omega (arith, near.nearest closing closes.is_edge refl refl back.0 back.1, back.3)

-- back at the node the walk is closed, and none is shorter
pub shortest_loop : (p : Program) → IsScript p → (form : Form) (closing first : Edge) (distances : List ℕ) (nodes : List Node) (kinds : List Kind)
    (at : Node) (step : ℕ) (w : Walk)
    → AreDistances p (back_filter form) closing.from distances → IsClosing p form closing → (near : IsNearest p distances closing first)
    → IsWalking p (back_filter form) distances first nodes kinds at step 0 → step ≡ near.distance
    → w.nodes.items ≡ nodes → w.kinds.items ≡ kinds → w.form ≡ form → IsShortestLoop p form closing.from w
shortest_loop p script form closing first distances nodes kinds at step w are_distances closes near walking same_step is_nodes is_kinds is_form = record {
  edges = (first.kind, first.to) ∷ walking.walked;
  written = subst (λ n. IsWalk w.nodes.items w.kinds.items n ((first.kind, first.to) ∷ walking.walked)) near.leaves
      (subst (λ l. IsWalk l w.kinds.items first.from ((first.kind, first.to) ∷ walking.walked)) (sym is_nodes)
      (subst (λ l. IsWalk nodes l first.from ((first.kind, first.to) ∷ walking.walked)) (sym is_kinds) walking.written));
  is_form = is_form;
  closed = (
    subst (λ n. Flow p (record { from = n; to = first.to; kind = first.kind })) near.leaves near.is_edge,
    subst (λ n. IsPath p first.to walking.walked n) (are_distances.some.only at walking.has_distance) walking.path,
  );
  begun = (near.is_kind ∙ closes.is_kind, walking.followed);
  shortest = shorter;
}
  where
    shorter : (walk : List (Kind × Node)) → IsPath p closing.from walk closing.from → IsBegun form walk → suc (length walking.walked) ≤ length walk
    shorter [] path begun = absurd begun
    shorter (edge ∷ more) path begun =
        let e : Edge = record { from = closing.from; to = edge.1; kind = edge.0 } in
        let other = distance_least p script (back_filter form) closing.from distances are_distances more edge.1
        (begin_reached p form closing.from distances are_distances e path.0 begun.0 refl) path.1 begun.1 (inside p script.targets e path.0).1 in
        omega (arith, walking.long, same_step, near.nearest e path.0 (begun.0 ∙ sym closes.is_kind) refl other.0 other.1, other.2)
