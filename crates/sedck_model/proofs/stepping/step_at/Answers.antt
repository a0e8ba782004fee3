use Rattle.sedck_model.proofs.Common.{sym, ◌∙◌, false≢true}
use Rattle.sedck_model.proofs.StepLemmas.{or_else}
use Rattle.sedck_model.proofs.stepping.step_at.Goals as goal

pub returns-clause-decided : goal.returns-clause-decided
returns-clause-decided c =
    or_else c.is_skipped.result _ _ (λ applied. false≢true (sym c.if-branch.false ∙ c.in_ok-is_applied.ensures.decided.1 applied))
    c.is_skipped.ensures.decided
