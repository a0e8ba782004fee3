-- The loop that is reported, edge by edge.
use Rattle.std.specs.Prelude.{◌≡◌, ℕ, ◌≤◌, List, [], ◌∷◌, length}
use Rattle.sedck_commands.specs.Program.{Program}
use Rattle.sedck_flow.specs.Flow.{Flow}
use Rattle.sedck_flow.specs.declared.graph.Node.{Node}
use Rattle.sedck_flow.specs.declared.graph.Edge.{Edge}
use Rattle.sedck_flow.specs.declared.graph.Kind.{Kind}
use Rattle.sedck_search.specs.Obstacle.{IsPath, IsReachable, IsWalk}
use Rattle.sedck_search.specs.Private.Reaching.{AreFollowed, Reaches}
use Rattle.sedck_search.specs.Private.Distances.{HasDistance}
use Rattle.sedck_search.specs.Private.Closing.{closing_kind, back_filter}
use Rattle.sedck_search.specs.declared.answer.Form.{Form}
use Rattle.sedck_search.specs.declared.answer.Walk.{Walk}

-- a walk that begins with a closing edge and goes back over the edges of the form
abbrev pub IsBegun : Form → List (Kind × Node) → Type 0
IsBegun form [] = ⊥
IsBegun form (edge ∷ more) = (edge.0 ≡ closing_kind form) × AreFollowed (back_filter form) more

-- an edge that closes a walk of the form from a node that can be reached
pub record IsClosing (p : Program) (form : Form) (e : Edge) : Type 0 where
  pub is_edge : Flow p e
  pub is_kind : e.kind ≡ closing_kind form
  pub reachable : IsReachable p e.from
  pub back : Reaches p (back_filter form) e.to e.from

-- of the edges of one node and kind, one from whose target the distance is shortest
pub record IsNearest (p : Program) (distances : List ℕ) (closing e : Edge) : Type 0 where
  pub is_edge : Flow p e
  pub is_kind : e.kind ≡ closing.kind
  pub leaves : e.from ≡ closing.from
  pub distance : ℕ
  pub has_distance : HasDistance distances e.to distance
  pub nearest : (f : Edge) → Flow p f → f.kind ≡ closing.kind → f.from ≡ closing.from → (other : ℕ) → HasDistance distances f.to other → distance ≤ other

-- a shortest closed walk of the form from the node
pub record IsShortestLoop (p : Program) (form : Form) (n : Node) (w : Walk) : Type 0 where
  pub edges : List (Kind × Node)
  pub written : IsWalk w.nodes.items w.kinds.items n edges
  pub is_form : w.form ≡ form
  pub closed : IsPath p n edges n
  pub begun : IsBegun form edges
  pub shortest : (walk : List (Kind × Node)) → IsPath p n walk n → IsBegun form walk → length edges ≤ length walk
