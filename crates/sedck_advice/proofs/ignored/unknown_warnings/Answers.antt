use Rattle.sedck_advice.proofs.Added.{others_trans}
use Rattle.sedck_advice.proofs.ignored.unknown_warnings.Goals as goal

pub loop-word-preserved : goal.loop-word-preserved
loop-word-preserved c = others_trans _ _ _ c.loop-word.invariant c.in_ok-push_unknown.ensures
