use Rattle.sedck_expressions.proofs.Common.{◌≡◌, ◌≤◌, List, length, drop, unread, Element, HasJust, is_of, elements_of}
use Rattle.sedck_expressions.proofs.ElementLoop.{LeftToRead}
use Rattle.sedck_expressions.proofs.brackets.lists.read_elements.Given as goal

abbrev pub invariant-elements : goal.invariant-elements
invariant-elements l = record {
  same : l.next.whole ≡ l.cursor.whole;
  shorter : length (unread l.next) ≤ length (unread l.cursor);
  front : List Element;
  just : HasJust l.set.0 (is_of front);
  reads : LeftToRead (drop l.outer l.cursor.whole.now) (elements_of (drop l.outer l.cursor.whole.now) (unread l.cursor)) front l.first (unread l.next);
}

abbrev pub decreases-elements : goal.decreases-elements
decreases-elements l = length (unread l.next)
