use Rattle.sedck_search.proofs.Common.{All, IsEmpty}
use Rattle.sedck_search.proofs.kept_sets.KeptSets.new.Given as goal

-- the sets so far are empty
abbrev pub invariant-loop : goal.invariant-loop
invariant-loop l = All IsEmpty l.kept.sets.items
