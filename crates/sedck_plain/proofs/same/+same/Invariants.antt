use Rattle.std.proofs.Common.{◌≡◌, ◌↔◌, map, drop}
use Rattle.sedck_expressions.specs.Tree.{trees}
use Rattle.sedck_expressions.specs.View.{tree}
use Rattle.sedck_plain.proofs.same.+same.Given as goal

abbrev pub invariant-same_trees-loop-item : goal.invariant-same_trees-loop-item
invariant-same_trees-loop-item l =
    (trees (map tree l.fn.one) ≡ trees (map tree l.fn.other)) ↔ (trees (map tree (drop l.item-index l.one)) ≡ trees (map tree l.rest))
