use Rattle.std.proofs.Common.{length, ap, arith}
use Rattle.std.specs.List.{between}
use Rattle.std.proofs.lemmas.Slice.{first_rest}
use Rattle.sedck_plain.proofs.MendedLemmas.{kept_end, kept_byte, kept_pair}
use Rattle.sedck_plain.proofs.mended.kept_left.Goals as goal

pub returns-then-first-delimiter-clause-part : goal.returns-then-first-delimiter-clause-part
returns-then-first-delimiter-clause-part c =
    c.bytes.invariant.0 _ _ (kept_end _ _ _ _ _ _ _ (first_rest c.bytes.part.now 0 (omega (arith, c.in-len1-up.len_at_least)))
    (first_rest c.bytes.text.now 0 (omega (arith, c.in-len1-up-text.len_at_least))) c.if-first-other.false c.if-first-delimiter.true)

pub bytes-preserved-then-first-ne92 : goal.bytes-preserved-then-first-ne92
bytes-preserved-then-first-ne92 c =
    let part = first_rest c.bytes.part.now 0 (omega (arith, c.in-len1-up.len_at_least)) in
    let text = first_rest c.bytes.text.now 0 (omega (arith, c.in-len1-up-text.len_at_least)) in (
      λ rest left x. c.bytes.invariant.0 rest left
          (kept_byte _ _ _ _ _ _ _ rest left part text c.if-first-other.false c.if-first-delimiter.false c.if-first-ne92.true x),
      omega (arith, ap length part, c.bytes.invariant.1),
    )

pub bytes-preserved : goal.bytes-preserved
bytes-preserved c =
    let part = first_rest c.bytes.part.now 0 (omega (arith, c.in-len1-up.len_at_least)) in
    let text = first_rest c.bytes.text.now 0 (omega (arith, c.in-len1-up-text.len_at_least)) in
    let more = first_rest (between 1 (length c.bytes.part.now) c.bytes.part.now) 0 (omega (arith, c.in-len1-up-more.len_at_least)) in (
      λ rest left x. c.bytes.invariant.0 rest left
          (kept_pair _ _ _ _ _ _ _ _ _ _ _ rest left part text c.if-first-other.false c.if-first-ne92.false
          more (first_rest _ 0 (omega (arith, c.in-len1-up-behind.len_at_least))) c.if-escaped-same.false x),
      omega (arith, ap length part, ap length more, c.bytes.invariant.1),
    )
