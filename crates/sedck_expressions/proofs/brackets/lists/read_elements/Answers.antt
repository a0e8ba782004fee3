use Rattle.sedck_expressions.proofs.Common.{◌∙◌, ◌++◌, ◌∷◌, [], refl, sym, ap, arith, Some, Ok, rules, ◌<◌, length, drop, unread, in_element, is_of, flaw_at, placed, fault_in, element_of}
use Rattle.std.proofs.Common.{length-drop}
use Rattle.sedck_expressions.proofs.ElementLoop.{elements_start, elements_end, elements_go, elements_fail}
use Rattle.sedck_expressions.proofs.SetLoop.{just_push}
use Rattle.sedck_expressions.proofs.brackets.lists.read_elements.Goals as goal

pub elements-init : goal.elements-init
elements-init c = record { same = refl; shorter = omega arith; front = []; just = search rules; reads = elements_start (drop c.args.outer c.args.cursor.whole.now) (unread c.args.cursor) }

pub elements-preserved : goal.elements-preserved
elements-preserved c =
    let front = c.elements.invariant.front in
    let e = element_of c.in-Ok.element in
    let read = rw c.unread.ensures at c.in-Ok.ensures in
    let left = c.advance-next.ensures.left in
    let less : length (unread c.advance-next.result) < length (unread c.elements.next) =
    omega (arith, ap length left, length-drop c.in-Ok.count (unread c.elements.next), read.taken.0, read.taken.1) in
    record {
      same = c.advance-next.ensures.whole ∙ c.elements.invariant.same;
      shorter = omega (arith, less, c.elements.invariant.shorter);
      front = front ++ e ∷ [];
      just = just_push c.union-set.result.0 front e (c.union-set.ensures (is_of front) (λ b. in_element b e) c.elements.invariant.just c.members.ensures);
      reads = elements_go c.elements.invariant.reads e (unread c.advance-next.result) (sym c.is_over.ensures.value ∙ c.elements-test.true)
          (read.read ∙ ap (λ t. Ok (e, t)) (sym left)) less;
    }

pub returns-in-Err-clause-value : goal.returns-in-Err-clause-value
returns-in-Err-clause-value c =
    let whole = c.args.cursor.whole.now in
    let stops = elements_fail c.elements.invariant.reads c.in-Err.flaw (sym c.is_over.ensures.value ∙ c.elements-test.true)
    (rw c.unread.ensures at c.in-Err.ensures.read) in
    ap (fault_in (length whole)) stops ∙ ap (λ f. Some f) (sym (c.fault_of.ensures.value
    ∙ ap (λ w. placed (length w.now) (flaw_at (drop c.args.outer w.now) (unread c.elements.next) c.in-Err.flaw)) c.elements.invariant.same))

pub returns-clause-value : goal.returns-clause-value
returns-clause-value c = (
  c.elements.invariant.front,
  elements_end c.elements.invariant.reads (sym c.is_over.ensures.value ∙ c.elements-test.false)
      ∙ ap (λ r. Ok (c.elements.invariant.front, r)) (sym c.advance.ensures.left),
  c.elements.invariant.just,
)
