use Rattle.sedck_model.proofs.Common.{tree}
use Rattle.sedck_model.proofs.GroupLemmas.{unset_groups}
use Rattle.sedck_model.proofs.groups.entered.Goals as goal

pub returns-clause-groups : goal.returns-clause-groups
returns-clause-groups c text = unset_groups text (tree c.args.body.now) c.args.spot.now.groups c.clear.new.groups c.clear.ensures
