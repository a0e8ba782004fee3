use Rattle.sedck_search.proofs.Common.{◌≢◌, ℕ, ◌<◌, Some, slice_get, AreSets, ArePartlyCounted}
use Rattle.sedck_search.proofs.counting.count_rest.Given as goal

-- the nodes so far are counted
abbrev pub invariant-loop-index : goal.invariant-loop-index
invariant-loop-index l = record {
  counted : ArePartlyCounted l.fn.graph.script.now l.fn.graph.filter l.counts;
  sets : AreSets l.fn.graph.script.now l.fn.graph.filter l.sets;
  done : (i : ℕ) → i < l.index → slice_get l.counts i ≢ Some 65535;
}
