use Rattle.sedck_explain_cli.proofs.Common.{◌∙◌}
use Rattle.sedck_explain_cli.proofs.Readings.{any_mapped}
use Rattle.sedck_explain_cli.proofs.reading.is_among.Goals as goal

pub returns : goal.returns
returns c = c.any_names.ensures ∙ any_mapped c.args.name.now c.args.lists.now
