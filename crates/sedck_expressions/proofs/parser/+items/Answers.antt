use Rattle.sedck_expressions.proofs.Common.{◌≡◌, ◌+◌, ◌<◌, ◌≤◌, ◌∷◌, drop, nat_tests, full, Inside, First, ◌++◌, length, map, true, false, refl, sym, ap, ◌∙◌, subst, arith, length-append, err_from_is_err_and, append-nil, unread, groups_in, tree, sequence, at_end, ClosedIs, set, map_push, length-drop, level_of}
use Rattle.sedck_expressions.proofs.ItemLoop.{groups-push, loop_starts, loop_ends, loop_goes, loop_fails, loop_fails_at, same_left, closed-push, closed_more, group_stops}
use Rattle.sedck_expressions.specs.declared.tree.Bre.TheVariants as Bre
use Rattle.sedck_expressions.proofs.ViewLemmas.{tree-Seq, tree-Group}
use Rattle.sedck_expressions.specs.Reading.{items}
use Rattle.sedck_expressions.proofs.parser.+items.Goals as goal

pub read_items-returns-clause-value : goal.read_items-returns-clause-value
read_items-returns-clause-value t c bound closed enough h =
    loop_ends (c.items.invariant.reads bound closed enough h) (sym c.is_at_end.ensures ∙ c.items-test.false)

pub read_items-items-init : goal.read_items-items-init
read_items-items-init t c = rw c.new-items.ensures.items (record {
  same = refl;
  few = c.requires.few;
  shorter = omega arith;
  opened = omega arith;
  closed = λ closed h. rw (append-nil closed) h;
  reads = λ bound closed enough h. rw (append-nil closed) (loop_starts bound _ _ _ _ closed _ enough);
})

pub read_items-items-preserved : goal.read_items-items-preserved
read_items-items-preserved t c =
    let xs = c.items.items.items in
    let item = c.in_ok-item.item in
    let alike = c.in_ok-item.ensures.groups in
    let items = c.in_ok-push.ensures.items in
    let groups = ap (λ ys. groups_in (sequence ys)) items ∙ groups-push xs item in
    let opened = c.in_ok-bare.ensures.opened ∙ ap (λ g. c.items.groups.opened + length g) (sym alike) in
    let going : at_end (unread c.items.next) ≡ false = sym c.is_at_end.ensures ∙ c.items-test.true in
    record {
      same = c.in_ok-item.ensures.same ∙ c.in_ok-bare.ensures.same ∙ c.items.invariant.same;
      few = c.read_item.ensures.few;
      shorter = omega (arith, c.in_ok-bare.ensures.shorter, c.in_ok-item.ensures.shorter, c.items.invariant.shorter);
      opened = omega (arith, opened, c.items.invariant.opened, ap length groups, length-append (groups_in (sequence xs)) (groups_in (tree item)));
      closed = λ closed h. subst (ClosedIs c.read_item.new.groups.closed)
          (ap (λ g. (closed ++ groups_in (sequence xs)) ++ g) (sym alike)
          ∙ sym (ap (λ ys. closed ++ groups_in (sequence ys)) items ∙ closed-push closed xs item))
          (c.in_ok-bare.ensures.closed (closed ++ groups_in (sequence xs)) (c.items.invariant.closed closed h));
      reads = λ bound closed enough h.
          let g = closed ++ groups_in (sequence xs) in
          same_left (ap (map tree) items ∙ map_push tree xs item) c.position_behind-position.ensures opened
          (ap (λ ys. closed ++ groups_in (sequence ys)) items ∙ closed-push closed xs item)
          (loop_goes (c.items.invariant.reads bound closed enough h) (tree c.in_ok-bare.bare) (unread c.in_ok-bare.sign) going
          (λ n room. c.in_ok-bare.ensures.value n g room (c.items.invariant.closed closed h)) (tree item) (unread c.in_ok-item.behind)
          c.in_ok-item.ensures.value (omega (arith, c.in_ok-bare.ensures.shorter, c.in_ok-item.ensures.shorter)));
    }

pub read_items-returns-in_err-bare-clause-value : goal.read_items-returns-in_err-bare-clause-value
read_items-returns-in_err-bare-clause-value t c bound closed enough h =
    let p = err_from_is_err_and c.from_residual.result c.from_residual.ensures.1 in
    let g = closed ++ groups_in (sequence c.items.items.items) in
    let same = ap (λ w. length w.now) c.items.invariant.same in
    rw (p.1, p.2) (λ bad. loop_fails (c.items.invariant.reads bound closed enough h) (length c.args.cursor.whole.now) _
    (sym c.is_at_end.ensures ∙ c.items-test.true)
    (λ n room. rw same at (c.in_err-bare.ensures.value n g room (c.items.invariant.closed closed h) bad)))

pub read_items-returns-in_err-item-clause-value : goal.read_items-returns-in_err-item-clause-value
read_items-returns-in_err-item-clause-value t c bound closed enough h =
    let p = err_from_is_err_and c.from_residual-in_err-item.result c.from_residual-in_err-item.ensures.1 in
    let same = ap (λ w. length w.now) (c.in_ok-bare.ensures.same ∙ c.items.invariant.same) in
    let g = closed ++ groups_in (sequence c.items.items.items) in
    rw (p.1, p.2) (λ bad. loop_fails_at (c.items.invariant.reads bound closed enough h) (tree c.in_ok-bare.bare) (unread c.in_ok-bare.sign)
    (sym c.is_at_end.ensures ∙ c.items-test.true)
    (λ n room. c.in_ok-bare.ensures.value n g room (c.items.invariant.closed closed h)) (length c.args.cursor.whole.now) _
    (rw same at (c.in_err-item.ensures.value bad)))

pub read_group-returns-in_err-items-clause-value : goal.read_group-returns-in_err-items-clause-value
read_group-returns-in_err-items-clause-value t c bound closed enough h =
    let p = err_from_is_err_and c.from_residual.result c.from_residual.ensures.1 in
    let depth = c.args.depth in
    let opened = c.args.groups.now.opened in
    let long : 2 ≤ length (unread c.args.cursor) = grind (arith, c.requires.opens) in
    let left = c.advance.ensures.left in
    let inside : level_of (depth + 1) ≡ Inside = grind (arith, nat_tests) in
    let room : length (unread c.advance.result) < bound = omega (arith, enough, long, ap length left, length-drop 2 (unread c.args.cursor)) in
    rw (p.1, p.2) (λ bad. group_stops (length c.args.cursor.whole.now) _ (items full bound Inside First (depth + 1) (opened + 1) closed) depth opened
    (drop 2 (unread c.args.cursor)) (omega (arith, c.if-depth-ge32.false)) (omega (arith, c.if-groups-ge99.false))
    (rw (inside, left, ap (λ w. length w.now) c.advance.ensures.whole) at (c.in_err-items.ensures.value bound closed room h bad)))

pub read_group-returns-in_ok-body-in-92-clause-closed : goal.read_group-returns-in_ok-body-in-92-clause-closed
read_group-returns-in_ok-body-in-92-clause-closed t c closed h =
    let k = c.args.groups.now.opened + 1 in
    let inner = groups_in (sequence c.in_ok-items.items.items) in
    let long : length c.read_items.new.groups.closed ≡ 256 = c.read_items.new.groups.long in
    let small : k < length c.read_items.new.groups.closed = omega (arith, c.requires.few) in
    let body : groups_in (tree c.in_ok-body-in-92.body.value) ≡ inner = ap (λ b. groups_in (tree b)) c.in_ok-body-in-92.ensures.ok
    ∙ ap groups_in (tree-Seq c.in_ok-items.items) in
    let whole : groups_in (tree (Bre.Group k c.in_ok-body-in-92.body)) ≡ k ∷ inner = ap groups_in (tree-Group k c.in_ok-body-in-92.body) ∙ ap (λ g. k ∷ g) body in
    subst (λ g. ClosedIs (set c.read_items.new.groups.closed k true) (closed ++ g)) (sym whole)
    (closed_more c.read_items.new.groups.closed closed inner k small (c.in_ok-items.ensures.closed closed h))
