-- The least rest of a match.
use Rattle.std.specs.Prelude.{ℕ, ◌<◌, ◌≤◌}
use Rattle.sedck_bre.specs.Lengths.{cap}
use Rattle.sedck_expressions.specs.WellFormed.{IsWellFormed}
use Rattle.sedck_commands.specs.Program.{Pattern, Previous, Expression, Substitution, Verb, Substitute, Program}
use Rattle.sedck_flow.specs.Flow.{AreRestsAbove, AreRestsAtLeast}

-- an expression of the command's own is well formed
abbrev pub IsFormed : Pattern → Type 0
IsFormed Previous = Unit {0}
IsFormed (Expression own) = IsWellFormed own

abbrev pub HasFormed : Verb → Type 0
HasFormed (Substitute s) = IsFormed s.pattern
HasFormed _ = Unit {0}

-- no rest is less, and below the cap not every rest is more
pub record IsLeastOfRests (p : Program) (s : Substitution) (n : ℕ) : Type 0 where
  pub floor : AreRestsAtLeast p s n
  pub met : n < cap → ¬ AreRestsAbove p s n
  pub capped : n ≤ cap
