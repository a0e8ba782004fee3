use Rattle.sedck_expressions.proofs.Common.{◌≡◌, ◌++◌, List, ℕ, drop, map, unread, trees, tree, SpellsItems}
use Rattle.sedck_expressions.specs.Shape as shape
use Rattle.sedck_expressions.proofs.Along.{IsLeft}
use Rattle.sedck_expressions.proofs.judging.+items.Given as goal

abbrev pub invariant-pass_items-loop-item : goal.invariant-pass_items-loop-item
invariant-pass_items-loop-item l = record {
  same : l.next.whole ≡ l.cursor.whole;
  left : (level : shape.Level) (position : shape.Position) (text after : List ℕ) → unread l.cursor ≡ text ++ after
      → SpellsItems level position text (trees (map tree l.items))
      → IsLeft l.sought level l.cursor.at l.next.at text after (unread l.next) (trees (map tree l.items)) (trees (map tree (drop l.item-index l.items)));
}
