-- What the parts of the checker find of some edges.
use Rattle.std.specs.Prelude.{◌≡◌, ◌≢◌, None, Option, MatchOption}
use Rattle.sedck_flow.specs.Flow.{IsEarlier}
use Rattle.sedck_flow.specs.declared.graph.Edge.{Edge}
use Rattle.sedck_cert.specs.Certificate.{Certificate}
use Rattle.sedck_cert.specs.Ranked.{ranks_at, MeetsEdge}
use Rattle.sedck_cert.specs.declared.checking.Rejection.{Rejection}
use Rattle.sedck_cert.specs.declared.checking.Rejection.TheVariants.{LeavesRanked, NotLowered}

-- the ranks don't meet the edge, and this is why
abbrev pub IsUnmetBy : Certificate → Edge → Rejection → Type 0
IsUnmetBy c e (LeavesRanked f) = (f ≡ e) × (¬ MeetsEdge c e) × (ranks_at c e.to ≡ None)
IsUnmetBy c e (NotLowered f) = (f ≡ e) × (¬ MeetsEdge c e) × (ranks_at c e.to ≢ None)
IsUnmetBy c e _ = ⊥

-- of these edges the first that the ranks don't meet is rejected so
pub record IsFirstUnmetOf (c : Certificate) (IsEdge : Edge → Type 0) (why : Rejection) : Type 0 where
  pub edge : Edge
  pub is_edge : IsEdge edge
  pub unmet : IsUnmetBy c edge why
  pub earlier : (f : Edge) → IsEdge f → IsEarlier f edge → MeetsEdge c f

-- the ranks meet each of these edges
abbrev pub MeetsAll : Certificate → (Edge → Type 0) → Type 0
MeetsAll c IsEdge = (e : Edge) → IsEdge e → MeetsEdge c e

-- either the ranks meet each of these edges, or this is why they don't meet the first
abbrev pub JudgesEdges : Certificate → (Edge → Type 0) → Option Rejection → Type 0
JudgesEdges c IsEdge found = MatchOption found (MeetsAll c IsEdge) (IsFirstUnmetOf c IsEdge)
