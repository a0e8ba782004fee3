use Rattle.std.proofs.Common.{◌∙◌, sym, arith}
use Rattle.std.proofs.lemmas.Option.{IfSome_then}
use Rattle.std.proofs.lemmas.Slice.{first_rest}
use Rattle.sedck_plain.proofs.MendedLemmas.{address_same, address_slash, address_custom}
use Rattle.sedck_plain.proofs.mended.address_left.Goals as goal

pub returns-then-sign-eq47-clause-part : goal.returns-then-sign-eq47-clause-part
returns-then-sign-eq47-clause-part c =
    let part = first_rest c.args.part.now 0 (omega (arith, c.in-len1-up.len_at_least)) in
    let text = first_rest c.args.text.now 0 (omega (arith, c.in-len1-up-text.len_at_least)) in
    IfSome_then c.part_left.result c.part_left.ensures.part (λ rests x. address_slash _ _ _ _ _ _ _ _ part text c.if-sign-eq47.true x)

pub returns-then-given-other-clause-part : goal.returns-then-given-other-clause-part
returns-then-given-other-clause-part c =
    let part = first_rest c.args.part.now 0 (omega (arith, c.in-len1-up.len_at_least)) in
    let text = first_rest c.args.text.now 0 (omega (arith, c.in-len1-up-text.len_at_least)) in
    IfSome_then c.kept_left.result c.kept_left.ensures.part (λ rests x. address_same _ _ _ _ _ _ _ _ _ _ part text c.if-sign-ne92.false
    (first_rest _ 0 (omega (arith, c.in-len1-up-inside.len_at_least))) c.if-given-other.true x)

pub returns-clause-part : goal.returns-clause-part
returns-clause-part c =
    let part = first_rest c.args.part.now 0 (omega (arith, c.in-len1-up.len_at_least)) in
    let text = first_rest c.args.text.now 0 (omega (arith, c.in-len1-up-text.len_at_least)) in
    IfSome_then c.part_left-2.result c.part_left-2.ensures.part (λ rests x. address_custom _ _ _ _ _ _ _ _ _ _ part text c.if-sign-ne92.false
    (first_rest _ 0 (omega (arith, c.in-len1-up-inside.len_at_least))) (sym c.is_exchanged.ensures ∙ c.if-not-is_exchanged.false) x)
