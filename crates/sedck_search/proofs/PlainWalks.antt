-- A walk between nodes that know the last line, without what they say of it.
use Rattle.sedck_search.proofs.Common.{◌≡◌, ◌≢◌, ◌<◌, List, [], ◌∷◌, length, ap, inl, inr, arith, Program, Node, Kind, Consume, Keep, Grow, IsPath, HasNone, HasSome, HasOnly, HasForm, IsObstacle, Form, Idle, Growing, HasKind}
use Rattle.sedck_flow.specs.VersionOne.{plain_node}
use Rattle.sedck_flow.proofs.PlainEdges.{plain}
use Rattle.sedck_search.specs.VersionOne.{IsPathOne, AllAre, SomeIs, HasFormOne, IsObstacleOne, plain_walk}

path_plain : (p : Program) (from : Node) (path : List (Kind × Node)) (to : Node) → IsPath p from path to
    → IsPathOne (HasKind p) p (plain_node from) (plain_walk path) (plain_node to)
path_plain p from [] to h = ap plain_node h
path_plain p from (edge ∷ more) to h =
    (plain p (record { from = from; to = edge.1; kind = edge.0 }) h.0, path_plain p edge.1 more to h.1)

none_plain : (kind : Kind) (walk : List (Kind × Node)) → HasNone kind walk → AllAre (λ k. k ≢ kind) (plain_walk walk)
none_plain kind [] h = tt
none_plain kind (edge ∷ more) h = (h.0, none_plain kind more h.1)

only_plain : (kind : Kind) (walk : List (Kind × Node)) → HasOnly kind walk → AllAre (λ k. k ≡ kind) (plain_walk walk)
only_plain kind [] h = tt
only_plain kind (edge ∷ more) h = (h.0, only_plain kind more h.1)

some_plain : (kind : Kind) (walk : List (Kind × Node)) → HasSome kind walk → SomeIs (λ k. k ≡ kind) (plain_walk walk)
some_plain kind [] h = h
some_plain kind (edge ∷ more) (inl is) = inl is
some_plain kind (edge ∷ more) (inr later) = inr (some_plain kind more later)

form_plain : (form : Form) (walk : List (Kind × Node)) → HasForm form walk → HasFormOne form (plain_walk walk)
form_plain Idle walk h = only_plain Keep walk h
form_plain Growing walk h = some_plain Grow walk h

some_edge : (walk : List (Kind × Node)) → 0 < length walk → 0 < length (plain_walk walk)
some_edge [] h = h
some_edge (edge ∷ more) h = omega arith

pub obstacle_plain : (p : Program) (n : Node) (walk : List (Kind × Node)) (form : Form) → IsObstacle p n walk form
    → IsObstacleOne (HasKind p) p (plain_node n) (plain_walk walk) form
obstacle_plain p n walk form h = record {
  closed = path_plain p n walk n h.closed;
  some_edge = some_edge walk h.some_edge;
  reachable = let (last, path, leads) = h.reachable in (plain_walk path, path_plain p _ path n leads);
  reads_none = none_plain Consume walk h.reads_none;
  has_form = form_plain form walk h.has_form;
}
