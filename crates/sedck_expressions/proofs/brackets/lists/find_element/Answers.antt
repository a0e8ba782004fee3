use Rattle.sedck_expressions.proofs.Common.{◌≡◌, ℕ, ◌-◌, ◌<◌, ◌≤◌, List, drop, length, Ok, refl, sym, ap, ◌∙◌, arith, unread, Cursor, element_of}
use Rattle.std.proofs.Common.{length-drop}
use Rattle.sedck_expressions.proofs.ElementHolder.{held_by_rest, held_here, held_after}
use Rattle.sedck_expressions.proofs.brackets.lists.find_element.Goals as goal
use Rattle.sedck_expressions.proofs.brackets.lists.find_element.Goals.{in-Ok+then-offset, in_default}

-- what is left at a cursor, by its offset
size_left : (cursor : Cursor) (whole : List ℕ) → cursor.whole.now ≡ whole → length (unread cursor) ≡ length whole - cursor.at
size_left cursor whole same = omega (arith, length-drop cursor.at cursor.whole.now, ap length same)

pub elements-preserved : goal.elements-preserved
elements-preserved c =
    let read = rw c.unread.ensures at c.in-Ok.ensures in
    let left = c.advance-behind.ensures.left in
    let same = c.advance-behind.ensures.whole ∙ c.elements.invariant.same in
    let less : length (unread c.advance-behind.result) < length (unread c.elements.next) =
    omega (arith, ap length left, length-drop c.in-Ok.count (unread c.elements.next), read.taken.0, read.taken.1) in
    let before : c.advance-behind.result.at ≤ c.args.offset = omega (arith, c.offset.ensures, c.if-offset.false) in
    let size = size_left c.advance-behind.result c.args.cursor.whole.now (ap (λ w. w.now) same) in
    record {
      same = same;
      before = before;
      sought = λ bound enough. held_after (c.elements.invariant.sought bound enough) (element_of c.in-Ok.field-0-0) (unread c.advance-behind.result)
          (read.read ∙ ap (λ t. Ok (element_of c.in-Ok.field-0-0, t)) (sym left)) less (omega (arith, before, size));
    }

pub returns-clause-value : goal.returns-clause-value
returns-clause-value c bound enough =
    let sought = c.elements.invariant.sought bound enough in
    let same = ap (λ w. w.now) c.elements.invariant.same in
    let here : unread c.elements.next ≡ drop c.offset-2.result c.args.cursor.whole.now = rw (c.offset-2.ensures, same) refl in
    elim c.match-read_element.branch [
      | in-Ok+then-offset w ↦
          let read = rw c.unread.ensures at w.in-Ok.ensures in
          let left = w.advance-behind.ensures.left in
          let less : length (unread w.advance-behind.result) < length (unread c.elements.next) =
          omega (arith, ap length left, length-drop w.in-Ok.count (unread c.elements.next), read.taken.0, read.taken.1) in
          let size = size_left w.advance-behind.result c.args.cursor.whole.now (ap (λ w. w.now) w.advance-behind.ensures.whole ∙ same) in
          held_here sought (element_of w.in-Ok.field-0-0) (unread w.advance-behind.result)
          (read.read ∙ ap (λ t. Ok (element_of w.in-Ok.field-0-0, t)) (sym left)) less
          (omega (
            arith,
            size,
            w.offset.ensures,
            w.if-offset.true,
            w.advance-behind.result.within,
            ap length (ap (λ w. w.now) w.advance-behind.ensures.whole ∙ same),
          )) ∙ here
      | in_default w ↦ held_by_rest sought _ (rw c.unread.ensures at w.in_default.ensures.read) ∙ here
    ]
