use Rattle.sedck_cert.proofs.Common.{◌≡◌, ◌+◌, ◌<◌, length, get_or, refl, arith, IsInRange}
use Rattle.sedck_cert.proofs.Decimals.{decimal-some, decimal-front, decimal-digit, decimal-le, digits-more, decimal-of_digits}
use Rattle.sedck_cert.proofs.reading.numbers.number.Goals.{else-text-eq48-via-then-text-eq48+else-text-gt1, else-text-eq48-via-else-text-eq48}
use Rattle.sedck_cert.proofs.reading.numbers.number.Goals as goal

pub returns-then-is_empty : goal.returns-then-is_empty
returns-then-is_empty c n most is =
    let some : 0 < length c.args.text.now = decimal-some _ n (omega arith) is in
    grind (arith, c.if-is_empty.ensures)

pub returns-then-text-gt1 : goal.returns-then-text-gt1
returns-then-text-gt1 c n most is =
    let one : length c.args.text.now ≡ 1 = decimal-front _ n (omega arith) is c.if-text-eq48.true in
    omega (arith, one)

pub returns-then-not-is_ascii_digit : goal.returns-then-not-is_ascii_digit
returns-then-not-is_ascii_digit c n most is =
    let range = decimal-digit _ n c.loop-byte.byte-index (omega arith) is (omega arith) in
    grind (arith, c.is_ascii_digit.ensures.bound)

pub returns-then-value-most : goal.returns-then-value-most
returns-then-value-most c n most is =
    let range : IsInRange 48 57 (get_or c.args.text.now c.loop-byte.byte-index 0) = grind (arith, c.is_ascii_digit.ensures.bound) in
    let more = digits-more c.args.text.now c.loop-byte.byte-index _ _ c.loop-byte-test.true c.loop-byte.invariant.0 c.loop-byte.invariant.1 refl range in
    omega (arith, more.1, decimal-le c.args.text.now n (c.loop-byte.byte-index + 1) (omega arith) is)

pub loop-byte-preserved : goal.loop-byte-preserved
loop-byte-preserved c =
    let range : IsInRange 48 57 (get_or c.args.text.now c.loop-byte.byte-index 0) = grind (arith, c.is_ascii_digit.ensures.bound) in
    let more = digits-more c.args.text.now c.loop-byte.byte-index _ _ c.loop-byte-test.true c.loop-byte.invariant.0 c.loop-byte.invariant.1 refl range in
    (more.0, more.1, omega arith)

pub returns : goal.returns
returns c = (
  c.loop-byte.invariant.2,
  decimal-of_digits _ c.loop-byte.byte-index _ c.loop-byte-test.false c.loop-byte.invariant.0 c.loop-byte.invariant.1
      (grind (arith, c.if-is_empty.ensures)) (λ zero. elim c.else-text-eq48.branch [
        | else-text-eq48-via-then-text-eq48+else-text-gt1 w ↦ grind (arith, c.if-is_empty.ensures)
        | else-text-eq48-via-else-text-eq48 w ↦ absurd (w.if-text-eq48.false zero)
      ]) (omega arith),
)
