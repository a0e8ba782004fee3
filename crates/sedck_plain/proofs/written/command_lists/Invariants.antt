use Rattle.std.proofs.Common.{◌≡◌, List, ℕ, ◌++◌, drop, length}
use Rattle.sedck_plain.specs.Private.Cutting.{HasLeft}
use Rattle.sedck_plain.proofs.written.command_lists.Given as goal

abbrev pub invariant-pieces : goal.invariant-pieces
invariant-pieces l = (all : List ℕ) → HasLeft (drop l.fn.location.start l.text) all → (more : List ℕ) × (all ≡ l.lists.items ++ more) × HasLeft l.rest more

abbrev pub decreases-pieces : goal.decreases-pieces
decreases-pieces l = length l.rest
