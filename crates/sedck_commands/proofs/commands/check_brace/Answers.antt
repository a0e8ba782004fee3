use Rattle.sedck_commands.proofs.Common.{◌≡◌, ap, refl, subst, arith, option_copied, IsBracedAt, BadLabel}
use Rattle.sedck_commands.proofs.ResultLemmas.{if_some_at}
use Rattle.sedck_commands.proofs.commands.check_brace.Goals as goal

pub returns-in-Some-2-to-max-clause-first : goal.returns-in-Some-2-to-max-clause-first
returns-in-Some-2-to-max-clause-first c = (
  c.in-JumpTo.jump.tests,
  option_copied c.in-JumpTo.jump.label,
  rw c.in-JumpTo.is (rw c.in-Some-2-to-max.is-0 refl),
  omega arith,
  λ offset at. ap BadLabel (if_some_at (λ place. place ≡ offset) c.in-Some-2-to-max.is-0 (subst (IsBracedAt offset) c.in-JumpTo.is at)),
)
