use Rattle.sedck_advice.proofs.Common.{◌∙◌, ap, is_error, is_locale}
use Rattle.sedck_advice.proofs.Added.{others_push, others_trans}
use Rattle.sedck_advice.proofs.looks.push_looks.Goals as goal

pub loop-look-preserved : goal.loop-look-preserved
loop-look-preserved c = others_trans _ _ _ c.loop-look.invariant (others_push _ _ _ c.in_ok-push.ensures.items (ap is_error c.new-finding.ensures.level ∙ c.level.ensures) (ap is_locale c.new-finding.ensures.code ∙ c.look-item.result.other))
