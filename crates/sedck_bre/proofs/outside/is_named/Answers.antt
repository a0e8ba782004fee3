use Rattle.sedck_bre.proofs.Common.{◌≡◌, ◌∙◌, false, ap, arith, nat_tests, bit_at, tree, tree-Group, nat_lt, bit_at_above}
use Rattle.sedck_bre.proofs.outside.is_named.Goals as goal

pub returns-else-k-lt16 : goal.returns-else-k-lt16
returns-else-k-lt16 c =
    let above : bit_at c.args.groups c.in-Group.k ≡ 0 = bit_at_above c.args.groups 16 c.in-Group.k c.ranges.groups.fits (omega (arith, c.if-k-lt16.false)) in
    let shape = ap tree c.in-Group.is ∙ tree-Group c.in-Group.k c.in-Group.field-1 in
    let far : nat_lt c.in-Group.k 16 ≡ false = grind (arith, nat_tests, c.if-k-lt16.false) in
    rw (shape, above) far
