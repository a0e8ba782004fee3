use Rattle.sedck_model.proofs.selecting.may_select_at.Goals as goal

pub returns-in-Context-clause-decided : goal.returns-in-Context-clause-decided
returns-in-Context-clause-decided c = rw c.in-Context.is c.is_matched.ensures.decided
