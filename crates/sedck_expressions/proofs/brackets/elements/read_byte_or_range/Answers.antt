use Rattle.sedck_expressions.proofs.Common.{◌∙◌, sym, ap, refl, subst, drop-drop, ◌>>=◌, range_or_one, take_rest, Reads}
use Rattle.sedck_expressions.proofs.brackets.elements.read_byte_or_range.Goals as goal

pub returns-then-begins_range-clause-read : goal.returns-then-begins_range-clause-read
returns-then-begins_range-clause-read c =
    let range = rw (take_rest c.args.text.now c.in_ok-first.count) at (sym c.begins_range.ensures.value ∙ c.if-begins_range.true) in
    let is = ap (λ o. o >>= range_or_one) c.in_ok-first.ensures.read ∙ rw (range, drop-drop 1 c.in_ok-first.count c.args.text.now) refl in
    subst (Reads _ c.read_range_end.result) (sym is) c.read_range_end.ensures.read
