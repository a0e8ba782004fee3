use Rattle.sedck_expressions.proofs.Common.{◌∙◌, ◌-◌, sym, ap, refl, Some, true, false, length, drop, arith, unread, is_of, mistaken, fault_in, BadBracket, EmptySet}
use Rattle.sedck_expressions.specs.BracketReading.{holder}
use Rattle.sedck_expressions.proofs.OffsetLemmas.{mistakable_read, inside_read, inside_size, left_at}
use Rattle.sedck_expressions.proofs.SetLoop.{set_given, set_empty, set_mistakable}
use Rattle.sedck_expressions.proofs.brackets.lists.read_set.Goals as goal

pub returns-then-is_mistakable-clause-value : goal.returns-then-is_mistakable-clause-value
returns-then-is_mistakable-clause-value c bad =
    let found = c.in_ok-listed.ensures.value in
    let whole = c.args.cursor.whole.now in
    let text = unread c.args.cursor in
    let rest = unread c.in_ok-listed.behind in
    let mistakable = mistakable_read c.args.cursor c.in_ok-listed.behind _ _ _ c.in_ok-listed.ensures.same c.offset.ensures c.offset-2.ensures c.unread.ensures
    true (sym c.is_mistakable.ensures ∙ c.if-is_mistakable.true) in
    let inside = inside_read c.args.cursor c.in_ok-listed.behind _ _ text c.in_ok-listed.ensures.same c.offset.ensures c.offset-2.ensures refl in
    let size = inside_size c.args.cursor c.in_ok-listed.behind _ _ text c.in_ok-listed.ensures.same c.offset.ensures c.offset-2.ensures refl
    c.in_ok-listed.ensures.shorter in
    let held = ap (λ t. holder (length text) (mistaken t rest) true text) (sym inside) ∙ c.mistakable_place.ensures.value rest size in
    ap (fault_in (length whole)) (set_mistakable (drop c.args.outer whole) c.args.complemented text rest found.0 found.1 mistakable)
    ∙ ap (λ t. Some (BadBracket (length whole - length t))) held
    ∙ ap (λ n. Some (BadBracket n)) (left_at whole c.mistakable_place.result (omega (arith, c.mistakable_place.ensures.within)))

pub returns-then-is_empty-clause-value : goal.returns-then-is_empty-clause-value
returns-then-is_empty-clause-value c bad =
    let found = c.in_ok-listed.ensures.value in
    let whole = c.args.cursor.whole.now in
    let clear = mistakable_read c.args.cursor c.in_ok-listed.behind _ _ _ c.in_ok-listed.ensures.same c.offset.ensures c.offset-2.ensures c.unread.ensures
    false (sym c.is_mistakable.ensures ∙ c.if-is_mistakable.false) in
    let stops = set_empty (drop c.args.outer whole) c.args.complemented (unread c.args.cursor) (unread c.in_ok-listed.behind) c.signed-set.result.0 found.0
    found.1 c.is_empty.ensures.words (c.signed-set.ensures (is_of found.0) found.2) clear (sym c.is_empty.ensures.value ∙ c.if-is_empty.true) in
    ap (fault_in (length whole)) stops ∙ ap (λ n. Some (EmptySet n)) (left_at whole c.args.outer (omega (arith, c.requires.outer.0)))

pub returns-clause-value : goal.returns-clause-value
returns-clause-value c =
    let found = c.in_ok-listed.ensures.value in
    let clear = mistakable_read c.args.cursor c.in_ok-listed.behind _ _ _ c.in_ok-listed.ensures.same c.offset.ensures c.offset-2.ensures c.unread.ensures
    false (sym c.is_mistakable.ensures ∙ c.if-is_mistakable.false) in
    set_given (drop c.args.outer c.args.cursor.whole.now) c.args.complemented (unread c.args.cursor) (unread c.in_ok-listed.behind) c.signed-set.result.0 found.0
    found.1 c.is_empty.ensures.words (c.signed-set.ensures (is_of found.0) found.2) clear (sym c.is_empty.ensures.value ∙ c.if-is_empty.false)
