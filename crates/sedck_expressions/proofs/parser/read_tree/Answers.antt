use Rattle.sedck_expressions.proofs.Common.{◌≡◌, ℕ, ◌+◌, ◌-◌, ◌<◌, Bool, List, [], map, length, Some, Ok, Err, arith, unread, Cursor, whole, sym, ap, ◌∙◌, subst, true, ◌==◌, Bre, err_from_is_err_and, Nil, trees, tree, sequence, Whole, First, Shape, full, ReFault, UnopenedGroup, fault_in}
use Rattle.sedck_expressions.specs.declared.tree.Bre.TheVariants.{Seq}
use Rattle.sedck_expressions.specs.Reading.{read, items}
use Rattle.sedck_expressions.specs.FirstFault.{first_fault}
use Rattle.sedck_expressions.proofs.ItemLoop.{fails_then}
use Rattle.sedck_expressions.proofs.WholeReading.{read-at, whole-some, whole-none, shape_of, only_of, none_of, none_closed}
use Rattle.sedck_expressions.proofs.ViewLemmas.{tree-Seq}
use Rattle.sedck_expressions.proofs.OffsetLemmas.{end_stands, left_at}
use Rattle.sedck_expressions.proofs.parser.read_tree.Goals as goal

-- the whole text isn't read where its items aren't
items_stop : (first text : List ℕ) (fault : ReFault) → first ≡ text
    → ((bound : ℕ) → length first < bound → fault_in (length text) (items full bound Whole First 0 0 [] first) ≡ Some fault) → first_fault text ≡ Some fault
unfolding first_fault read
items_stop first text fault is h =
    fails_then (length text) fault _ whole (subst (λ t. fault_in (length text) (items full (length t + 1) Whole First 0 0 [] t) ≡ Some fault) is
    (h (length first + 1) (omega arith)))

pub returns-in_err-items-clause-first : goal.returns-in_err-items-clause-first
returns-in_err-items-clause-first c =
    let p = err_from_is_err_and c.from_residual.result c.from_residual.ensures.1 in
    let same = ap (λ w. length w.now) c.new.ensures.whole in
    rw (p.1, p.2) (λ bad. items_stop _ c.args.text.now _ c.new.ensures.left
    (λ n room. rw same at (c.in_err-items.ensures.value n [] room none_closed bad)))

pub returns-in_err-items-clause-refused : goal.returns-in_err-items-clause-refused
returns-in_err-items-clause-refused c =
    let p = err_from_is_err_and c.from_residual.result c.from_residual.ensures.1 in
    let same = ap (λ w. length w.now) c.new.ensures.whole in
    rw (p.1, p.2) (λ bad. none_of c.args.text.now _ (items_stop _ c.args.text.now _ c.new.ensures.left
    (λ n room. rw same at (c.in_err-items.ensures.value n [] room none_closed bad))))

-- what is left is the place of the fault
left_over : (text : List ℕ) (end : Cursor) (place : ℕ) → end.whole.now ≡ text → place ≡ end.at → read full text ≡ Err (UnopenedGroup, unread end)
    → first_fault text ≡ Some (UnopenedGroup place)
unfolding first_fault
left_over text end place same at stops =
    ap (fault_in (length text)) stops ∙ ap (λ w. Some (UnopenedGroup (length w - length (unread end)))) (sym same)
    ∙ ap (λ n. Some (UnopenedGroup n)) (left_at end.whole.now end.at (omega (arith, end.within)) ∙ sym at)

pub returns-then-not-is_empty-clause-first : goal.returns-then-not-is_empty-clause-first
returns-then-not-is_empty-clause-first c bad =
    let some = whole-some (trees (map tree c.in_ok-items.items.items)) c.unread.ensures c.is_empty.ensures c.if-not-is_empty.true in
    let same = ap (λ w. w.now) (c.in_ok-items.ensures.same ∙ c.new.ensures.whole) in
    left_over c.args.text.now c.in_ok-items.end _ same c.offset-place.ensures
    (read-at c.new.ensures.left (λ n room. c.in_ok-items.ensures.value n [] room none_closed) ∙ some.0)

pub returns-then-not-is_empty-clause-refused : goal.returns-then-not-is_empty-clause-refused
returns-then-not-is_empty-clause-refused c bad =
    none_of c.args.text.now _ (returns-then-not-is_empty-clause-first c bad)

pub returns-then-not-is_empty-clause-place : goal.returns-then-not-is_empty-clause-place
returns-then-not-is_empty-clause-place c =
    let stands = end_stands c.in_ok-items.end c.in_ok-items.ensures.end (whole-some Nil c.unread.ensures c.is_empty.ensures c.if-not-is_empty.true).1 in
    let whole : c.in_ok-items.end.whole ≡ c.args.text = c.in_ok-items.ensures.same ∙ c.new.ensures.whole in
    rw (c.offset-place.ensures, ← whole) stands

-- the whole text was read
whole_read : {first text slice left : List ℕ} {over : Bool} (list : List Bre) → first ≡ text → slice ≡ left → over ≡ (length slice == 0) → over ≡ true
    → ((bound : ℕ) → length first < bound → items full bound Whole First 0 0 [] first ≡ Ok (trees (map tree list), left)) → read full text ≡ Ok (sequence list)
whole_read list is same e told h = read-at is h ∙ whole-none (trees (map tree list)) same e told

pub returns-clause-only : goal.returns-clause-only
returns-clause-only c =
    let read = whole_read c.in_ok-items.items.items c.new.ensures.left c.unread.ensures c.is_empty.ensures c.if-not-is_empty.false
    (λ n room. c.in_ok-items.ensures.value n [] room none_closed) in
    only_of c.args.text.now (tree (Seq c.in_ok-items.items)) (read ∙ ap (λ t. Ok t) (sym (tree-Seq c.in_ok-items.items)))

pub returns-clause-shape : goal.returns-clause-shape
returns-clause-shape c =
    let read = whole_read c.in_ok-items.items.items c.new.ensures.left c.unread.ensures c.is_empty.ensures c.if-not-is_empty.false
    (λ n room. c.in_ok-items.ensures.value n [] room none_closed) in
    subst (λ t. Shape c.args.text.now t) (sym (tree-Seq c.in_ok-items.items))
    (shape_of c.args.text.now (sequence c.in_ok-items.items.items) read)
