use Rattle.sedck_search.proofs.Common.{◌≡◌, ranks_from}
use Rattle.std.specs.Prelude.{take}
use Rattle.sedck_search.proofs.searching.ranks_of.Given as goal

-- the ranks so far
abbrev pub invariant-loop-index : goal.invariant-loop-index
invariant-loop-index l = l.ranks.items ≡ ranks_from (take l.index l.firsts) (take l.index l.seconds)
