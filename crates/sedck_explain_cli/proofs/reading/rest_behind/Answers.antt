use Rattle.sedck_explain_cli.proofs.Readings.{stripped}
use Rattle.sedck_explain_cli.proofs.reading.rest_behind.Goals as goal

pub returns : goal.returns
returns c = stripped c.args.prefix.now c.args.word.now c.strip_prefix.result c.strip_prefix.ensures.cases
