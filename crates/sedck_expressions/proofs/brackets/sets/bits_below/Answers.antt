use Rattle.sedck_expressions.proofs.Common.{◌*◌, ◌-◌, ◌<◌, sym, subst, arith, HasBitsBelow}
use Rattle.std.proofs.lemmas.Nat.{one_shl}
use Rattle.sedck_expressions.proofs.SetLemmas.{all_bits, some_bits}
use Rattle.sedck_expressions.proofs.brackets.sets.bits_below.Goals as goal

pub returns-then-limit-start-2 : goal.returns-then-limit-start-2
returns-then-limit-start-2 c = all_bits c.args.limit c.args.index c.if-limit-start-2.true

pub returns-else-limit-start-2 : goal.returns-else-limit-start-2
returns-else-limit-start-2 c =
    let less : c.args.limit - 64 * c.args.index < 64 = omega arith in
    subst (λ m. HasBitsBelow c.args.limit c.args.index (m - 1)) (sym (one_shl (c.args.limit - 64 * c.args.index) 64 less))
    (some_bits c.args.limit c.args.index c.if-limit-start.false c.if-limit-start-2.false)
