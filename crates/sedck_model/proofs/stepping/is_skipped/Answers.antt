use Rattle.sedck_model.proofs.StepLemmas.{also}
use Rattle.sedck_model.proofs.stepping.is_skipped.Goals as goal

pub returns-clause-decided : goal.returns-clause-decided
returns-clause-decided c =
    also c.may_skip.result _ _ _ (c.is_silent.ensures.0 c.if-not-is_silent.false) (c.goes_past.ensures.0 c.if-not-goes_past.false)
    c.may_skip.ensures.decided
