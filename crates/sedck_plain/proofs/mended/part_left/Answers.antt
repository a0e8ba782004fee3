use Rattle.std.proofs.Common.{◌∙◌, length, ap, sym, ⊎_elim, arith}
use Rattle.std.proofs.lemmas.Slice.{first_rest}
use Rattle.sedck_plain.proofs.MendedLemmas.{given_end, given_byte, given_escape, escape_shorter}
use Rattle.sedck_plain.proofs.mended.part_left.Goals as goal

pub returns-then-last-given-clause-part : goal.returns-then-last-given-clause-part
returns-then-last-given-clause-part c =
    let part = first_rest c.bytes.part.now 0 (omega (arith, c.in-len1-up.len_at_least)) in
    let text = first_rest c.bytes.text.now 0 (omega (arith, c.in-len1-up-text.len_at_least)) in
    c.bytes.invariant.0 _ _ (given_end _ _ _ _ _ _ _ _ _ _ part text (sym c.is_in_list.ensures ∙ c.if-is_in_list.false) c.if-first-other-2.false c.if-last-given.true)

pub bytes-preserved-then-is_for_itself : goal.bytes-preserved-then-is_for_itself
bytes-preserved-then-is_for_itself c =
    let part = first_rest c.bytes.part.now 0 (omega (arith, c.in-len1-up.len_at_least)) in
    let text = first_rest c.bytes.text.now 0 (omega (arith, c.in-len1-up-text.len_at_least)) in (
      λ rest left x. c.bytes.invariant.0 rest left
          (given_byte _ _ _ c.bytes.position _ _ _ _ _ _ _ rest left part text c.if-first-last.false c.if-first-other.false
          (c.is_for_itself.ensures.itself c.if-is_for_itself.true) c.position_after-position.ensures x),
      omega (arith, ap length part, c.bytes.invariant.1),
    )

pub bytes-preserved : goal.bytes-preserved
bytes-preserved c =
    let text = first_rest c.bytes.text.now 0 (omega (arith, c.in-len1-up-text.len_at_least)) in
    let outside = sym c.is_in_list.ensures ∙ c.if-is_in_list.false in
    let sign = c.is_for_itself.ensures.sign c.if-is_for_itself.false outside in (
      λ rest left x. c.bytes.invariant.0 rest left
          (given_escape _ _ _ c.bytes.position _ _ _ _ _ _ _ rest left text (⊎_elim (λ is. absurd (c.if-last-given.false is)) (λ is. is) sign)
          (first_rest _ 0 (omega (arith, c.in-len1-up-behind.len_at_least))) outside c.in_ok-part.ensures x),
      omega (arith, escape_shorter _ _ _ _ _ c.in_ok-part.ensures, c.bytes.invariant.1),
    )
