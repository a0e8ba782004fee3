use Rattle.sedck_expressions.proofs.Common.{◌≡◌, ℕ, ◌-◌, ◌≤◌, true, length, unread}
use Rattle.sedck_expressions.specs.BracketReading.{holder}
use Rattle.sedck_expressions.proofs.ElementHolder.{IsSought}
use Rattle.sedck_expressions.proofs.brackets.lists.find_element.Given as goal

abbrev pub invariant-elements : goal.invariant-elements
invariant-elements l = record {
  same : l.next.whole ≡ l.cursor.whole;
  before : l.next.at ≤ l.offset;
  sought : (bound : ℕ) → length (unread l.cursor) ≤ bound →
      IsSought (holder bound (length l.cursor.whole.now - l.offset) true (unread l.cursor)) (length l.cursor.whole.now - l.offset) l.first (unread l.next);
}

abbrev pub decreases-elements : goal.decreases-elements
decreases-elements l = length (unread l.next)
