use Rattle.sedck_expressions.proofs.Common.{◌≡◌, ℕ, ◌+◌, ◌*◌, ◌<◌, ◌≤◌, ◌++◌, List, length, map, unread, groups_in, tree, sequence, full, ClosedIs, position_of, level_of}
use Rattle.sedck_expressions.specs.Shape as shape
use Rattle.sedck_expressions.specs.Reading.{items}
use Rattle.sedck_expressions.proofs.ItemLoop.{LeftToRead}
use Rattle.sedck_expressions.proofs.parser.+items.Given as goal

abbrev pub decreases-read_items : goal.decreases-read_items
decreases-read_items l = 2 * length (unread l.cursor) + 2

abbrev pub decreases-read_item : goal.decreases-read_item
decreases-read_item l = 2 * length (unread l.cursor) + 1

abbrev pub decreases-read_group : goal.decreases-read_group
decreases-read_group l = 2 * length (unread l.cursor)

abbrev pub invariant-read_items-items : goal.invariant-read_items-items
invariant-read_items-items l = record {
  same : l.next.whole ≡ l.cursor.whole;
  few : l.groups.opened ≤ 99;
  shorter : length (unread l.next) ≤ length (unread l.cursor);
  opened : l.groups.opened ≡ l.fn.groups.opened + length (groups_in (sequence l.items.items));
  closed : (closed : List ℕ) → ClosedIs l.fn.groups.closed closed → ClosedIs l.groups.closed (closed ++ groups_in (sequence l.items.items));
  reads : (bound : ℕ) (closed : List ℕ) → length (unread l.cursor) < bound → ClosedIs l.fn.groups.closed closed →
      LeftToRead (items full bound (level_of l.depth) shape.First l.depth l.fn.groups.opened closed (unread l.cursor)) (map tree l.items.items)
      (level_of l.depth) (position_of l.position) l.depth l.groups.opened (closed ++ groups_in (sequence l.items.items)) (unread l.next);
}

abbrev pub decreases-read_items-items : goal.decreases-read_items-items
decreases-read_items-items l = length (unread l.next)
