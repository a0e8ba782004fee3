use Rattle.sedck_search.proofs.Common.{◌+◌, ◌-◌, ◌*◌, bit_count}
use Rattle.sedck_search.proofs.Frontiers.{IsSearch}
use Rattle.sedck_search.proofs.reaching.add_reached.Given as goal

abbrev pub invariant-loop-index : goal.invariant-loop-index
invariant-loop-index l = IsSearch l.fn.known.graph.script.now l.fn.known.graph.filter l.fn.node l.fn.reached l.reached l.frontier l.first

-- the nodes that wait, and those that may still be reached, which will wait
abbrev pub decreases-loop-index : goal.decreases-loop-index
decreases-loop-index l = bit_count l.frontier + 2 * (16384 - bit_count l.reached)
