use Rattle.sedck_search.proofs.Common.{◌≡◌, ◌-◌, Edge, IsNearest}
use Rattle.sedck_search.proofs.ShortestLoops.{IsWalking}
use Rattle.sedck_search.proofs.loops.loop_from.Given as goal

-- the walk so far, and how far it is to its node
abbrev pub invariant-loop-step : goal.invariant-loop-step
invariant-loop-step l = record {
  first : Edge;
  near : IsNearest l.fn.graph.script.now l.distances.items l.fn.closing first;
  distance : l.distance ≡ near.distance;
  walking : IsWalking l.fn.graph.script.now l.back.filter l.distances.items first l.nodes.items l.kinds.items l.at l.step (l.distance - l.step);
}
