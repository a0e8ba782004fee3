use Rattle.sedck_advice.proofs.Added.{others_trans}
use Rattle.sedck_advice.proofs.names.name_warnings.Goals as goal

pub loop-doubt-preserved : goal.loop-doubt-preserved
loop-doubt-preserved c = others_trans _ _ _ c.loop-doubt.invariant c.in_ok-push_warning.ensures
