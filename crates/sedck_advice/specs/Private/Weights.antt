-- What functions inside the crate promise each other of expressions that may be slow.
use Rattle.std.specs.Prelude.{◌≡◌, false, min, List, sum_by}
use Rattle.std.specs.List.{list_any}
use Rattle.sedck_bre.specs.Tree.{Tree}
use Rattle.sedck_bre.specs.Lengths.{cap}
use Rattle.sedck_script.specs.Program.{Command}
use Rattle.sedck_script.specs.ByteSafe.{splits_character, command_expressions}
use Rattle.sedck_advice.specs.References.{has_reference}
use Rattle.sedck_advice.specs.Slow.{repeats_badly, written_out}
use Rattle.sedck_advice.specs.declared.weights.Weight.{Weight}

-- what is known of these expressions
pub record Weighs (expressions : List Tree) (weight : Weight) : Type 0 where
  pub reference : weight.reference ≡ list_any has_reference expressions
  pub repetition : weight.repetition ≡ list_any repeats_badly expressions
  pub byte : weight.byte ≡ list_any splits_character expressions
  pub items : weight.items ≡ min (sum_by (written_out false) expressions) cap

-- what is known of the expressions of these commands
pub record WeighsAll (commands : List Command) (weight : Weight) : Type 0 where
  pub repetition : weight.repetition ≡ list_any (λ c. list_any repeats_badly (command_expressions c)) commands
  pub items : weight.items ≡ min (sum_by (λ c. sum_by (written_out false) (command_expressions c)) commands) cap
