use Rattle.sedck_expressions.proofs.Common.{◌≡◌, false, arith, nat_tests, bit_at, bit_at_above}
use Rattle.std.proofs.Common.{nat_lt}
use Rattle.sedck_expressions.proofs.parts.names.Goals as goal

pub returns-else-k-lt16 : goal.returns-else-k-lt16
returns-else-k-lt16 c =
    let above : bit_at c.args.bits c.args.k ≡ 0 = bit_at_above c.args.bits 16 c.args.k c.ranges.bits.fits (omega (arith, c.if-k-lt16.false)) in
    let far : nat_lt c.args.k 16 ≡ false = grind (arith, nat_tests, c.if-k-lt16.false) in
    rw above far
