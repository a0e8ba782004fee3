use Rattle.sedck_expressions.proofs.Common.{◌≡◌, ℕ, ◌+◌, ◌≤◌, List, ◌∷◌, length, drop, get_or, ap, ◌∙◌, arith, err_from_is_err_and, unread, Cursor, HasOneAt, full, length-drop, after_backslash, fault_in, position_of}
use Rattle.sedck_expressions.proofs.OffsetLemmas.{stands_at}
use Rattle.sedck_expressions.proofs.items.read_escape.Goals as goal

-- what follows the first byte begins with the second
second_on : (text : List ℕ) → 2 ≤ length text → drop 1 text ≡ get_or text 1 0 ∷ drop 2 text
second_on text h = grind arith

-- the offset of two bytes, and what follows them
pub pair_size : (cursor : Cursor) (place : ℕ) → place ≡ cursor.at → 2 ≤ length (unread cursor)
    → place + 2 + length (drop 2 (unread cursor)) ≡ length cursor.whole.now
pair_size cursor place is long =
    omega (arith, is, long, cursor.within, length-drop cursor.at cursor.whole.now, length-drop 2 (unread cursor))

pub returns-in_err-item-in-len2-up-clause-value : goal.returns-in_err-item-in-len2-up-clause-value
returns-in_err-item-in-len2-up-clause-value c inner deep opened closed h =
    let p = err_from_is_err_and c.from_residual.result c.from_residual.ensures.1 in
    let long = rw c.unread.ensures at c.in-len2-up.len_at_least in
    let size = pair_size c.args.cursor c.offset-place.result c.offset-place.ensures long in
    rw (p.1, p.2) (λ bad. ap (λ t. fault_in (length c.args.cursor.whole.now) (after_backslash full inner (position_of c.args.position) deep opened closed t))
    (second_on (unread c.args.cursor) long)
    ∙ (rw c.unread.ensures at c.in_err-item-in-len2-up.ensures.value) inner deep opened (length c.args.cursor.whole.now) closed (drop 2 (unread c.args.cursor)) h size bad)

pub returns-in_err-item-in-len2-up-clause-place : goal.returns-in_err-item-in-len2-up-clause-place
returns-in_err-item-in-len2-up-clause-place c =
    let p = err_from_is_err_and c.from_residual.result c.from_residual.ensures.1 in
    let here : HasOneAt c.args.cursor.whole.now c.offset-place.result "\\" = rw c.offset-place.ensures (stands_at c.args.cursor "\\" c.requires.begins) in
    rw (p.1, p.2) (c.in_err-item-in-len2-up.ensures.place c.args.cursor.whole.now here)
