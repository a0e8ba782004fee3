-- Obstacles in the flow graphs by which certificates of version 1 were judged, this project's own: closed walks that no such certificate allowed.
-- The law `obstacles_were_there` cites them alone.
use Rattle.std.specs.Prelude.{◌≡◌, ◌≢◌, ◌⊎◌, ◌<◌, List, [], ◌∷◌, length}
use Rattle.sedck_commands.specs.Program.{Program}
use Rattle.sedck_flow.specs.VersionOne.{NodeOne, start_one, Kinds, FlowOne, plain_node}
use Rattle.sedck_flow.specs.declared.graph.Node.{Node}
use Rattle.sedck_flow.specs.declared.graph.Kind.{Kind}
use Rattle.sedck_flow.specs.declared.graph.Kind.TheVariants.{Consume, Keep, Grow}
use Rattle.sedck_search.specs.declared.answer.Form.{Form}
use Rattle.sedck_search.specs.declared.answer.Form.TheVariants.{Idle, Growing}

-- edges in a row from one node to another: each with its kind and the node that it leads to
abbrev pub IsPathOne : Kinds → Program → NodeOne → List (Kind × NodeOne) → NodeOne → Type 0
IsPathOne kinds p from [] to = from ≡ to
IsPathOne kinds p from (edge ∷ more) to = FlowOne kinds p (record { from = from; to = edge.1; kind = edge.0 }) × IsPathOne kinds p edge.1 more to

-- each edge of these, and some edge, is of a kind that is asked for
abbrev pub AllAre : (Kind → Type 0) → List (Kind × NodeOne) → Type 0
AllAre IsAsked [] = Unit {0}
AllAre IsAsked (edge ∷ more) = IsAsked edge.0 × AllAre IsAsked more

abbrev pub SomeIs : (Kind → Type 0) → List (Kind × NodeOne) → Type 0
SomeIs IsAsked [] = ⊥
SomeIs IsAsked (edge ∷ more) = IsAsked edge.0 ⊎ SomeIs IsAsked more

abbrev pub HasFormOne : Form → List (Kind × NodeOne) → Type 0
HasFormOne Idle walk = AllAre (λ kind. kind ≡ Keep) walk
HasFormOne Growing walk = SomeIs (λ kind. kind ≡ Grow) walk

-- a closed walk from the node, reachable, on which no line is read
pub record IsObstacleOne (kinds : Kinds) (p : Program) (n : NodeOne) (walk : List (Kind × NodeOne)) (form : Form) : Type 0 where
  pub closed : IsPathOne kinds p n walk n
  pub some_edge : 0 < length walk
  pub reachable : (path : List (Kind × NodeOne)) × IsPathOne kinds p start_one path n
  pub reads_none : AllAre (λ kind. kind ≢ Consume) walk
  pub has_form : HasFormOne form walk

-- a walk without what its nodes say of the last line
abbrev pub plain_walk : List (Kind × Node) → List (Kind × NodeOne)
plain_walk [] = []
plain_walk (edge ∷ more) = (edge.0, plain_node edge.1) ∷ plain_walk more
