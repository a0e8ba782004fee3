use Rattle.std.proofs.Common.{List, ℕ, length}
use Rattle.sedck_plain.specs.Mended.{IsCommandGiven}
use Rattle.sedck_plain.proofs.mended.command_left.Given as goal

abbrev pub invariant-pieces : goal.invariant-pieces
invariant-pieces l = (rest : List ℕ) → IsCommandGiven l.command l.text rest → IsCommandGiven l.fn.command l.fn.text rest

abbrev pub decreases-pieces : goal.decreases-pieces
decreases-pieces l = length l.command
