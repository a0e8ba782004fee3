use Rattle.sedck_model.proofs.applying.does.Goals as goal

pub returns-in-Substitute-clause-decided : goal.returns-in-Substitute-clause-decided
returns-in-Substitute-clause-decided c = rw c.in-Substitute.is c.substitutes_on.ensures.decided
