use Rattle.sedck_engines.proofs.Common.{◌≡◌, ◌++◌, drop, walk_lines, loop_text}
use Rattle.sedck_engines.proofs.rank.loop_report.Given as goal

-- the report so far, and the edges to come
abbrev pub invariant-loop-index : goal.invariant-loop-index
invariant-loop-index l = l.report.items ++ walk_lines (drop l.index l.walk.nodes.items) (drop l.index l.walk.kinds.items) ≡ loop_text l.walk
