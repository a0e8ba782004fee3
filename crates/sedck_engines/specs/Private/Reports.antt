-- Parts of the reports.
use Rattle.std.specs.Prelude.{◌≡◌, ℕ, suc, List, [], ◌++◌, Option, Some, None, length}
use Rattle.sedck_script.specs.Program.{Program}
use Rattle.sedck_flow.specs.Flow.{FlowFrom, ListsEdges}
use Rattle.sedck_flow.specs.declared.graph.Node.{Node}
use Rattle.sedck_flow.specs.declared.graph.Edge.{Edge}
use Rattle.sedck_cert.specs.Text.{line}
use Rattle.sedck_cert.specs.declared.limits.Bound.{Bound}
use Rattle.sedck_search.specs.declared.answer.Found.{Found}
use Rattle.sedck_search.specs.declared.answer.Found.TheVariants.{Ranks, Loop}
use Rattle.sedck_engines.specs.Reports.{bound_words, edge_lines}

-- the line of a bound, if there is one
abbrev pub bound_line : Option Bound → List ℕ
bound_line None = []
bound_line (Some b) = line (bound_words b)

-- the edges that leave the node are added, in order
pub record AddsEdgesFrom (p : Program) (n : Node) (before after : List ℕ) : Type 0 where
  pub edges : List Edge
  pub lists : ListsEdges edges (FlowFrom p n)
  pub added : after ≡ before ++ edge_lines edges

-- a loop has one node more than kinds
abbrev pub IsWritten : Found → Type 0
IsWritten (Ranks cert) = Unit {0}
IsWritten (Loop walk) = length walk.nodes.items ≡ suc (length walk.kinds.items)
