-- The locations of the commands of a text are as many as these, and in order.
use Rattle.sedck_commands.proofs.Common.{◌≡◌, ℕ, suc, ◌≤◌, ◌-◌, List, length, refl, ap, arith, Item, Items, locations_of, commands_among, AreInOrder}
use Rattle.sedck_commands.specs.Items as w
use Rattle.sedck_commands.proofs.OffsetLemmas.{tail_cut, tail_length, ends_tail, verb_text_shorter}
use Rattle.sedck_commands.proofs.CommandLemmas.{address_tail}

pub located_count : {text : List ℕ} {items : List Item} (size : ℕ) (spelled : Items text items)
    → length (locations_of size spelled) ≡ length (commands_among items)
located_count size (w.nothing m) = refl
located_count size (w.comment m e k r x) = located_count size x
located_count size (w.closing m e f x) = located_count size x
located_count size (w.command m c x) = ap suc (located_count size x)

pub located_order : {text : List ℕ} {items : List Item} (size from : ℕ) → length text ≤ size → from ≤ size - length text
    → (spelled : Items text items) → AreInOrder from size (locations_of size spelled)
located_order size from h k (w.nothing m) = omega arith
located_order size from h k (w.comment m e l r x) =
    let far = tail_length (tail_cut m) in
    let near = tail_length (tail_cut l) in
    located_order size from (omega arith) (omega arith) x
located_order size from h k (w.closing m e f x) =
    let far = tail_length (tail_cut m) in
    let near = tail_length (ends_tail f) in
    located_order size from (omega arith) (omega arith) x
located_order size from h k (w.command m c x) =
    let far = tail_length (tail_cut m) in
    let addresses = tail_length (address_tail c.addresses) in
    let marks = tail_length (tail_cut c.run) in
    let verb = verb_text_shorter c.verbs in
    (omega arith, omega arith, omega arith, located_order size _ (omega arith) (omega arith) x)
