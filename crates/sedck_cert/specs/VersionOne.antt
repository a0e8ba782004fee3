-- When a certificate of version 1, whose nodes are places with the substitution flag, was accepted, and what becomes of it (law `upgrades_are_accepted`).
use Rattle.std.specs.Prelude.{◌≡◌, ℕ, List, [], ◌∷◌, length, Option, Some, slice_get, flat_map}
use Rattle.std.specs.Option.{option_flatten}
use Rattle.sedck_script.specs.Program.{Program}
use Rattle.sedck_flow.specs.Run.{NamesForReading, NamesForWriting}
use Rattle.sedck_flow.specs.VersionOne.{NodeOne, EdgeOne, Kinds, start_one, node_index_one, FlowOne}
use Rattle.sedck_cert.specs.Certificate.{Certificate}
use Rattle.sedck_cert.specs.Ranked.{Lowers, ListsNames}

-- ---- Acceptance

-- the two ranks of a node, if it has ranks
abbrev pub ranks_at_one : Certificate → NodeOne → Option (ℕ × ℕ)
ranks_at_one c n = option_flatten (slice_get c.ranks (node_index_one n))

-- an edge from a node with ranks leads to a node with ranks, lowered as its kind asks
abbrev pub MeetsEdgeOne : Certificate → EdgeOne → Type 0
MeetsEdgeOne c e = (before : ℕ × ℕ) → ranks_at_one c e.from ≡ Some before
    → (after : ℕ × ℕ) × (ranks_at_one c e.to ≡ Some after) × Lowers e.kind before after

pub record IsRankedOne (kinds : Kinds) (p : Program) (c : Certificate) : Type 0 where
  pub start_ranks : ℕ × ℕ
  pub has_start : ranks_at_one c start_one ≡ Some start_ranks
  pub meets : (e : EdgeOne) → FlowOne kinds p e → MeetsEdgeOne c e

-- these kinds are those of the script's successful substitutions
pub record AcceptsOne (kinds : Kinds) (p : Program) (c : Certificate) : Type 0 where
  pub count : c.commands ≡ length p.commands
  pub ranked : IsRankedOne kinds p c
  pub reads : ListsNames c.reads (NamesForReading p)
  pub writes : ListsNames c.writes (NamesForWriting p)

-- ---- Upgrading

-- each entry twice: a node has become two, one where a line is left and then one where none is (the law `upgrades_keep_ranks`)
abbrev pub doubled : List (Option (ℕ × ℕ)) → List (Option (ℕ × ℕ))
doubled all = flat_map (λ ranks. ranks ∷ ranks ∷ []) all

-- the certificate over nodes that know the last line
abbrev pub upgraded : Certificate → Certificate
upgraded c = record { commands = c.commands; ranks = doubled c.ranks; reads = c.reads; writes = c.writes }
