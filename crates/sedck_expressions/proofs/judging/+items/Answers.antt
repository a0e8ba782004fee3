use Rattle.sedck_expressions.proofs.Common.{◌+◌, ◌++◌, ◌∷◌, drop, map, refl, sym, ap, subst, ◌∙◌, append_assoc, codes, err_from_is_err_and, unread, trees, tree, Inside, SpellsItem, StopsAt, drop_more, drop_all}
use Rattle.sedck_expressions.proofs.Along.{IsLeft, IsFirst, read_on, left_more, left_none, none_group, none_repeat, stops_group, stops_repeat, stops_all, first_all, group_cut, reference_stands}
use Rattle.sedck_expressions.proofs.ViewLemmas.{tree-Byte, tree-Set, tree-Ref, tree-Group, tree-Repeat}
use Rattle.sedck_expressions.proofs.judging.+items.Goals as goal

pub pass_item-returns-in-Byte-clause-passes : goal.pass_item-returns-in-Byte-clause-passes
pass_item-returns-in-Byte-clause-passes t c level position text rest after cut spelled =
    let is = ap tree c.in-Byte.is ∙ tree-Byte c.in-Byte.field-0 in
    let written = subst (SpellsItem level position text rest) is spelled in
    rw is (c.after_byte.ensures.left position c.in-Byte.field-0 text rest after cut written, record { no_reference = λ _. refl; no_anchor = λ _. refl; no_repeated = refl })

pub pass_item-returns-in-Set-clause-passes : goal.pass_item-returns-in-Set-clause-passes
pass_item-returns-in-Set-clause-passes t c level position text rest after cut spelled =
    let is = ap tree c.in-Set.is ∙ tree-Set c.in-Set.field-0 in
    let written = subst (SpellsItem level position text rest) is spelled in
    rw is (c.after_list.ensures.left _ text after cut written.0 written.1, record { no_reference = λ _. refl; no_anchor = λ _. refl; no_repeated = refl })

pub pass_item-returns-then-sought-2-clause-passes : goal.pass_item-returns-then-sought-2-clause-passes
pass_item-returns-then-sought-2-clause-passes t c level position text rest after cut spelled =
    let is = ap tree c.in-Ref.is ∙ tree-Ref c.in-Ref.field-0 in
    let written = subst (SpellsItem level position text rest) is spelled in
    let stands = reference_stands c.args.cursor c.in-Ref.field-0 text after cut written.0 written.1 written.2 in
    rw c.offset-place-then-sought-2.ensures (rw is ((stands.0, stands.1, c.if-sought-2.true), (c.if-sought-2.true, refl)))

pub pass_item-returns-in_ok-end-in-Group-clause-passes : goal.pass_item-returns-in_ok-end-in-Group-clause-passes
pass_item-returns-in_ok-end-in-Group-clause-passes t c level position text rest after cut spelled =
    let is = ap tree c.in-Group.is ∙ tree-Group c.in-Group.field-0 c.in-Group.body in
    let (inside, written, list) = subst (SpellsItem level position text rest) is spelled in
    let start = c.ahead-in-Group.ensures.left ∙ ap (drop 2) cut ∙ group_cut text inside after written in
    let passed = rw c.deref.ensures at (c.in_ok-end-in-Group.ensures.passes Inside inside (92 ∷ 41 ∷ after) start) in
    let done = passed list in
    rw is (c.ahead-in-Group-2.ensures.left ∙ ap (drop 2) done.0, none_group c.in-Group.field-0 (tree c.in-Group.body.value) done.1)

pub pass_item-returns-in_err-end-in-Group-clause-passes : goal.pass_item-returns-in_err-end-in-Group-clause-passes
pass_item-returns-in_err-end-in-Group-clause-passes t c level position text rest after cut spelled =
    let is = ap tree c.in-Group.is ∙ tree-Group c.in-Group.field-0 c.in-Group.body in
    let (inside, written, list) = subst (SpellsItem level position text rest) is spelled in
    let start = c.ahead-in-Group.ensures.left ∙ ap (drop 2) cut ∙ group_cut text inside after written in
    let passed = rw c.deref.ensures at (c.in_err-end-in-Group.ensures.passes Inside inside (92 ∷ 41 ∷ after) start) in
    let done = passed list in
    let p = err_from_is_err_and c.from_residual.result c.from_residual.ensures.1 in
    let fault = c.in_err-end-in-Group.field-0.0 in
    let body = tree c.in-Group.body.value in
    let at = read_on c.args.cursor c.ahead-in-Group.result (codes "\\(") (inside ++ 92 ∷ 41 ∷ after) c.ahead-in-Group.ensures.same
    (cut ∙ ap (λ x. x ++ after) written ∙ ap (λ x. 92 ∷ 40 ∷ x) (append_assoc inside (codes "\\)") after)) start in
    rw (p.1, p.2) (rw is (
      stops_group c.args.sought c.args.cursor.whole.now c.in-Group.field-0 body fault
          (subst (λ w. StopsAt c.args.sought body w.now fault) c.ahead-in-Group.ensures.same done.0),
      (inside, written, subst (λ n. IsFirst c.args.sought body inside n fault) at done.1),
    ))

pub pass_item-returns-in_ok-sign-in-Repeat-clause-passes : goal.pass_item-returns-in_ok-sign-in-Repeat-clause-passes
pass_item-returns-in_ok-sign-in-Repeat-clause-passes t c level position text rest after cut spelled =
    let is = ap tree c.in-Repeat.is ∙ tree-Repeat c.in-Repeat.body c.in-Repeat.least c.in-Repeat.most in
    let (u, v, parts, can, body, count) = subst (SpellsItem level position text rest) is spelled in
    let start = cut ∙ ap (λ x. x ++ after) parts ∙ append_assoc u v after in
    let passed = rw c.deref-in-Repeat.ensures at (c.in_ok-sign-in-Repeat.ensures.passes level position u (v ++ rest) (v ++ after) start) in
    let done = passed body in
    rw is (
      c.after_sign.ensures.left c.in-Repeat.least c.in-Repeat.most v after done.0 count,
      none_repeat (tree c.in-Repeat.body.value) c.in-Repeat.least c.in-Repeat.most done.1,
    )

pub pass_item-returns-in_err-sign-in-Repeat-clause-passes : goal.pass_item-returns-in_err-sign-in-Repeat-clause-passes
pass_item-returns-in_err-sign-in-Repeat-clause-passes t c level position text rest after cut spelled =
    let is = ap tree c.in-Repeat.is ∙ tree-Repeat c.in-Repeat.body c.in-Repeat.least c.in-Repeat.most in
    let (u, v, parts, can, body, count) = subst (SpellsItem level position text rest) is spelled in
    let start = cut ∙ ap (λ x. x ++ after) parts ∙ append_assoc u v after in
    let passed = rw c.deref-in-Repeat.ensures at (c.in_err-sign-in-Repeat.ensures.passes level position u (v ++ rest) (v ++ after) start) in
    let done = passed body in
    let p = err_from_is_err_and c.from_residual-in_err-sign-in-Repeat.result c.from_residual-in_err-sign-in-Repeat.ensures.1 in
    rw (p.1, p.2) (rw is (
      stops_repeat c.args.sought c.args.cursor.whole.now (tree c.in-Repeat.body.value) c.in-Repeat.least c.in-Repeat.most c.in_err-sign-in-Repeat.field-0.0 done.0,
      (u, v, parts, (level, position, v ++ rest, body), count, done.1),
    ))

pub pass_items-loop-item-preserved : goal.pass_items-loop-item-preserved
pass_items-loop-item-preserved t c = record {
  same = c.in_ok-next.ensures.same ∙ c.loop-item.invariant.same;
  left = λ level position text after cut spelled.
      let i = c.loop-item.item-index in
      let items = c.args.items.now in
      let x = c.item-item.result in
      let more = trees (map tree (drop (i + 1) items)) in
      let one = ap (λ xs. trees (map tree xs)) (drop_more items i x c.loop-item-test.true ∙ ap (λ y. y ∷ drop (i + 1) items) (sym c.item-item.is)) in
      let left = subst (IsLeft c.args.sought level c.args.cursor.at c.loop-item.next.at text after (unread c.loop-item.next) (trees (map tree items))) one
      (c.loop-item.invariant.left level position text after cut spelled) in
      let (u, v, parts, first, others) = left.spelled in
      let here = left.cut ∙ ap (λ w. w ++ after) parts ∙ append_assoc u v after in
      let passed = c.in_ok-next.ensures.passes level left.position u v (v ++ after) here first in
      let at = read_on c.loop-item.next c.in_ok-next.next u (v ++ after) c.in_ok-next.ensures.same here passed.0 in
      left_more c.in_ok-next.next.at (unread c.in_ok-next.next) (tree x) more left at passed.0 passed.1;
}

pub pass_items-returns-clause-passes : goal.pass_items-returns-clause-passes
pass_items-returns-clause-passes t c level position text after cut spelled =
    let items = c.args.items.now in
    let none = ap (λ xs. trees (map tree xs)) (drop_all c.loop-item.item-index items c.loop-item-test.false) in
    left_none (subst (IsLeft c.args.sought level c.args.cursor.at c.loop-item.next.at text after (unread c.loop-item.next) (trees (map tree items))) none
    (c.loop-item.invariant.left level position text after cut spelled))

pub pass_items-returns-in_err-next-clause-passes : goal.pass_items-returns-in_err-next-clause-passes
pass_items-returns-in_err-next-clause-passes t c level position text after cut spelled =
    let i = c.loop-item.item-index in
    let items = c.args.items.now in
    let x = c.item-item.result in
    let more = trees (map tree (drop (i + 1) items)) in
    let one = ap (λ xs. trees (map tree xs)) (drop_more items i x c.loop-item-test.true ∙ ap (λ y. y ∷ drop (i + 1) items) (sym c.item-item.is)) in
    let left = subst (IsLeft c.args.sought level c.args.cursor.at c.loop-item.next.at text after (unread c.loop-item.next) (trees (map tree items))) one
    (c.loop-item.invariant.left level position text after cut spelled) in
    let (u, v, parts, first, others) = left.spelled in
    let passed = c.in_err-next.ensures.passes level left.position u v (v ++ after) (left.cut ∙ ap (λ w. w ++ after) parts ∙ append_assoc u v after) first in
    let p = err_from_is_err_and c.from_residual.result c.from_residual.ensures.1 in
    let fault = c.in_err-next.field-0.0 in
    rw (p.1, p.2) (
      stops_all c.args.sought c.args.cursor.whole.now (tree x) more fault left
          (subst (λ w. StopsAt c.args.sought (tree x) w.now fault) c.loop-item.invariant.same passed.0),
      first_all c.args.sought (tree x) more fault left passed.1,
    )
