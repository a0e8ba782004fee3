use Rattle.std.proofs.Common.{ap, length, arith}
use Rattle.std.proofs.lemmas.Slice.{first_rest}
use Rattle.sedck_plain.proofs.CutLemmas.{second_rest, read_more, read_end, read_byte, read_escaped, read_two}
use Rattle.sedck_plain.proofs.written.push_lists.Goals as goal

pub returns-in-len1-up-clause-lists : goal.returns-in-len1-up-clause-lists
returns-in-len1-up-clause-lists c = λ all left n x.
    read_end _ _ _ _ _ _ _ _ _ all left (first_rest c.bytes.rest.now 0 (omega (arith, c.in-len1-up.len_at_least))) c.if-first-delimiter.true n
    c.in_ok-push-in-len1-up.ensures.items c.bytes.invariant.0 x

pub bytes-preserved-then-first-ne92 : goal.bytes-preserved-then-first-ne92
bytes-preserved-then-first-ne92 c =
    let cut = first_rest c.bytes.rest.now 0 (omega (arith, c.in-len1-up.len_at_least)) in (
      read_more _ _ _ _ _ _ _ _ _ _ _ _ c.in_ok-position-in-len1-up-2.ensures.lists c.in_ok-position-in-len1-up-2.ensures.position cut c.bytes.invariant.0
          (read_byte _ _ _ _ c.if-first-delimiter.false c.if-first-ne92.true),
      omega (arith, ap length cut, c.bytes.invariant.1),
    )

pub bytes-preserved-then-next-delimiter : goal.bytes-preserved-then-next-delimiter
bytes-preserved-then-next-delimiter c =
    let cut = second_rest c.bytes.rest.now c.in-len2-up.len_at_least in (
      read_more _ _ _ _ _ _ _ _ _ _ _ _ c.in_ok-position-in-len2-up.ensures.lists c.in_ok-position-in-len2-up.ensures.position cut c.bytes.invariant.0
          (read_escaped _ _ _ _ _ c.if-first-delimiter.false c.if-first-ne92.false c.if-next-delimiter.true),
      omega (arith, ap length cut, c.bytes.invariant.1),
    )

pub bytes-preserved : goal.bytes-preserved
bytes-preserved c =
    let cut = second_rest c.bytes.rest.now c.in-len2-up.len_at_least in (
      read_two _ _ _ _ _ _ _ _ _ _ _ _ _ cut c.if-first-delimiter.false c.if-first-ne92.false c.if-next-delimiter.false
          c.in_ok-escaped-in-len2-up-2.ensures.lists c.in_ok-escaped-in-len2-up-2.ensures.position c.in_ok-position-in-len2-up-2.ensures.lists
          c.in_ok-position-in-len2-up-2.ensures.position c.bytes.invariant.0,
      omega (arith, ap length cut, c.bytes.invariant.1),
    )
