use Rattle.sedck_advice.proofs.Common.{ap, is_error, is_locale}
use Rattle.sedck_advice.proofs.Added.{others_push}
use Rattle.sedck_advice.proofs.ignored.push_unknown.Goals as goal

pub returns : goal.returns
returns c = others_push _ _ _ c.in_ok-push.ensures.items (ap is_error c.new-finding.ensures.level) (ap is_locale c.new-finding.ensures.code)
