use Rattle.sedck_explain_cli.proofs.Common.{sym}
use Rattle.sedck_explain_cli.proofs.Mended.{stays_under}
use Rattle.sedck_explain_cli.proofs.delivering.status_under_condition.Goals as goal

pub returns-in_default : goal.returns-in_default
returns-in_default c = sym (stays_under c.args.status c.in_default.not-Accepted)
