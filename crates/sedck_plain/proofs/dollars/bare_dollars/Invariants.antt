use Rattle.std.specs.Prelude.{length}
use Rattle.sedck_plain.proofs.dollars.bare_dollars.Given as goal

abbrev pub decreases-pieces : goal.decreases-pieces
decreases-pieces l = length l.rest
