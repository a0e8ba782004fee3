use Rattle.sedck_commands.proofs.Common.{sym, ◌∙◌, longest_one}
use Rattle.sedck_commands.proofs.FirstBytes.{heads}
use Rattle.sedck_commands.proofs.addresses.skip_comma.Goals as goal

pub returns-then-next-ne44-clause-none : goal.returns-then-next-ne44-clause-none
returns-then-next-ne44-clause-none c = λ blanks more comma.
    c.if-next-ne44.true (heads (sym c.in_ok-next.ensures.cut ∙ (longest_one c.skip.ensures.1 comma).1))
